use Rattle.std.proofs.Common.{ℕ, Bool, ◌&&◌, eqb, get_or, sym, ap, ◌∙◌, ⊎_elim, arith}
use Rattle.std.proofs.lemmas.List.{get_or_past}
use Rattle.std.proofs.lemmas.Bool.{cases_lt, lt-ltb, le-ltb}
use Rattle.observer.proofs.marks.read_set.Goals as goal

pub returns : goal.returns
returns c s =
    c.loop-s.invariant s
    ∙ ⊎_elim
    (λ h. ap (λ (b : Bool). b && eqb (get_or c.args.marks.now s 0) 1) (lt-ltb s c.loop-s.s h))
    (λ h.
    ap (λ (b : Bool). b && eqb (get_or c.args.marks.now s 0) 1) (le-ltb s c.loop-s.s h)
    ∙ ap (λ (x : ℕ). eqb x 1) (sym (get_or_past c.args.marks.now s 0 (omega arith))))
    (cases_lt s c.loop-s.s)
