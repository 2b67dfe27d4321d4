-- Events cut behind the 129th number are turned away just as the whole row is. Assumes nothing.
use Rattle.std.proofs.Common.{◌≡◌, ℕ, ◌<◌, List, length, take, Some, None, ap, ⊎_elim, arith}
use Rattle.std.proofs.lemmas.List.{length-take-le, take_all}
use Rattle.std.proofs.lemmas.Bool.{cases_lt, lt-ltb}
use Rattle.plant.specs.declared.parts.Refusal.TheVariants.{Events}
use Rattle.plant.specs.Refusals.{events_refusal, refusal}
use Rattle.plant.proofs.Valid.{refused_or_valid}

too_many : (ys : List ℕ) → 128 < length ys → events_refusal ys ≡ Some (Events 128)
unfolding events_refusal
too_many ys h = rw (lt-ltb 128 (length ys) h)

pub cut_refusal : (n : ℕ) (xs ys : List ℕ) → refusal n xs (take 129 ys) ≡ refusal n xs ys
cut_refusal n xs ys =
    ⊎_elim
    (λ long.
    let cut : 128 < length (take 129 ys) = omega (arith, length-take-le 129 ys (omega arith)) in
    rw (too_many (take 129 ys) cut, too_many ys (omega arith)))
    (λ short. ap (refusal n xs) (take_all 129 ys short))
    (cases_lt 129 (length ys))

-- and where they are not turned away nothing was cut
pub cut_whole : (n : ℕ) (xs ys : List ℕ) → refusal n xs ys ≡ None → take 129 ys ≡ ys
cut_whole n xs ys e = let v = (refused_or_valid n xs ys).0 e in take_all 129 ys (omega (arith, v.whole_events, v.few_events))
