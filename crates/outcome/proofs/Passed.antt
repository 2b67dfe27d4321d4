-- What it tells that a check has passed. Assumes nothing.
use Rattle.std.proofs.Common.{◌≡◌, false, Some, None, Ok, Option, is_some, refl}
use Rattle.plant.specs.declared.parts.Refusal.{Refusal}
use Rattle.plant.specs.Checked.{checked}

-- an answer without an error
pub nothing : (o : Option Refusal) → Ok tt ≡ checked o → o ≡ None
nothing None e = refl
nothing (Some r) e = absurd (cc)

-- a ghost field that says so
pub none_by : (o : Option Refusal) → is_some o ≡ false → o ≡ None
none_by None e = refl
none_by (Some r) e = absurd (cc)
