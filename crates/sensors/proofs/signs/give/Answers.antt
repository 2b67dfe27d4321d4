use Rattle.std.proofs.Common.{ℕ, ◌≤◌, ◌<◌, rules}
use Rattle.sensors.specs.Signs.{InUse}
use Rattle.sensors.proofs.Signing.{crowded}
use Rattle.sensors.proofs.signs.give.Goals as goal

pub unwrap-sign-requires : goal.unwrap-sign-requires
unwrap-sign-requires c =
    let some : ((o : ℕ) → 1 ≤ o → o < 256 → InUse c.args.events.now o) → ⊥ = λ all. crowded c.args.events.now c.requires.size all in
    search rules
