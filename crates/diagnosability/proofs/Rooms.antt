-- What it means that nothing was turned away. Assumes nothing.
use Rattle.std.proofs.Common.{◌≡◌, ℕ, ◌*◌, ◌≤◌, List, Some, None, Ok, Option, refl, arith}
use Rattle.std.proofs.lemmas.Bool.Decides.{nat_tests}
use Rattle.plant.specs.declared.parts.Refusal.{Refusal}
use Rattle.plant.specs.Checked.{checked}
use Rattle.plant.specs.Refusals.{refusal}
use Rattle.plant.proofs.Valid.{or_else_none}
use Rattle.diagnosability.specs.Verdict.{room_refusal, judge_refusal}

nothing : (o : Option Refusal) → Ok tt ≡ checked o → o ≡ None
nothing None e = refl
nothing (Some r) e = let z : ◌≡◌ {A = ℕ} 0 1 = cc in absurd (omega arith)

pub enough : (n : ℕ) (xs es : List ℕ) (room : ℕ) → Ok tt ≡ checked (judge_refusal n xs es room) → 8 * (n * n) ≤ room
unfolding room_refusal
enough n xs es room e = let small = (or_else_none (refusal n xs es) (room_refusal n room) (nothing (judge_refusal n xs es room) e)).1 in grind (arith, nat_tests)
