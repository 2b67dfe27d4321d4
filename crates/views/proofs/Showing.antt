-- A plant with events shown by signs of their own. Assumes nothing.
use mathlib.Core.Path.{◌≡◌, refl, sym, ap, ◌∙◌}
use mathlib.Core.Bool.{cond, Bool, true, false, true≢false}
use Prim.Native.Nat.{ℕ, suc, ◌+◌}
use native.Mathlib.Omega.{arith}
use Rattle.plant.specs.Plant.{Plant}
use Rattle.plant.specs.Theorems.{with_shows}
use Rattle.views.specs.Views.{FinerView}
use Rattle.views.specs.Shown.{Shown, Within, ShownMore, ShownSome}
use Rattle.views.proofs.Finer.{finer_out}

-- an event outside of a set is outside of what lies in it
outside : (a b : ℕ → Bool) → Within a b → (e : ℕ) → b e ≡ false → a e ≡ false
outside a b within e out = by_case (a e) refl
  where
    by_case : (k : Bool) → a e ≡ k → k ≡ false
    by_case true h = absurd (true≢false (sym (within e h) ∙ out))
    by_case false h = refl

module _ (p q r : Plant) (a b : ℕ → Bool) (within : Within a b) (few : Shown p a q) (more : Shown p b r) where
  -- where the larger set leaves an event as it was, so does the smaller one
  same : (e : ℕ) → b e ≡ false → q.shows e ≡ r.shows e
  same e out = few.others e (outside a b within e out) ∙ sym (more.others e out)

  nothing : (e : ℕ) (k : Bool) → b e ≡ k → r.shows e ≡ 0 → q.shows e ≡ 0
  nothing e true h none = absurd (more.something e h none)
  nothing e false h none = same e h ∙ none

  alike : (e d : ℕ) (k l : Bool) → b e ≡ k → b d ≡ l → r.shows e ≡ r.shows d → q.shows e ≡ q.shows d
  alike e d true l h i s = ap q.shows (sym (more.own e d h (sym s)))
  alike e d false true h i s = ap q.shows (more.own d e i s)
  alike e d false false h i s = same e h ∙ s ∙ sym (same d i)

  pub shown_finer : FinerView q r
  shown_finer = record {
    arrows = more.arrows ∙ sym few.arrows;
    faults = λ e. more.faults e ∙ sym (few.faults e);
    nothing = λ e. nothing e (b e) refl;
    alike = λ e d. alike e d (b e) (b d) refl refl;
  }

pub shown_more : ShownMore
shown_more p q r a b n within few more = finer_out q r n (shown_finer p q r a b within few more)

-- past the bound each event has a sign of its own
pub shown_some : ShownSome
shown_some p set most small = (
  with_shows p sign,
  record {
    arrows = refl;
    faults = λ e. refl;
    others = λ e out. rw out refl;
    something = λ e in' none. absurd (not_nothing e in' none);
    own = λ e d in' s. own e d in' (set d) refl s;
  },
)
  where
    sign : ℕ → ℕ
    sign e = cond (set e) (suc (most + e)) (p.shows e)

    not_nothing : (e : ℕ) → set e ≡ true → cond (set e) (suc (most + e)) (p.shows e) ≡ 0 → ⊥
    not_nothing e in' none = let z : suc (most + e) ≡ 0 = rw in' at none in omega arith

    own : (e d : ℕ) → set e ≡ true → (k : Bool) → set d ≡ k → cond (set d) (suc (most + d)) (p.shows d) ≡ cond (set e) (suc (most + e)) (p.shows e) → d ≡ e
    own e d in' true h s = let z : suc (most + d) ≡ suc (most + e) = rw (h, in') at s in omega arith
    own e d in' false h s = let z : p.shows d ≡ suc (most + e) = rw (h, in') at s in absurd (omega (arith, small d))
