-- Rows laid at the front of a room, and rows laid behind them. Assumes nothing.
use Rattle.std.proofs.Common.{◌≡◌, ℕ, ◌+◌, ◌-◌, ◌*◌, ◌≤◌, List, length, take, drop, sym, ap, ◌∙◌, add-zero, add_assoc, arith}
use borrow.Rule.Slice.PartMut.{put_mid}
use Rattle.graph.specs.Walk.{labels}
use Rattle.graph.specs.Product.{lefts, rights}
use Rattle.plant.specs.Plant.{Plant, Hides}
use Rattle.plant.specs.Twin.{Twin}
use Rattle.plant.proofs.Judged.{walks_hide}
use Rattle.witness.specs.declared.moves.Pair.{Pair}
use Rattle.plant.specs.declared.parts.Mark.TheVariants.{Fault, Any}
use Rattle.witness.specs.declared.rows.Rows.{Rows}
use Rattle.witness.specs.Traced.{Shown}
use Rattle.diagnosability.specs.Verdict.{part, HiddenIn}
use Rattle.diagnosability.proofs.Lending.{lent_size, part_front, part_back, lent_rest}

-- the four rows are those of two walks of the twin product, so they hide a fault
rows_hide : (p : Plant) (knot : Pair) {es fs round other : List ℕ} (room : List ℕ) {n : ℕ} {r q : Rows} {xs lent ys : List ℕ}
    (runs : Shown p n Fault (record { left = 0; right = 0 }) knot room xs r) (rounds : Shown p n Any knot knot lent ys q)
    → es ≡ lefts (labels (Twin p) runs.found.walk) → fs ≡ rights (labels (Twin p) runs.found.walk)
    → round ≡ lefts (labels (Twin p) rounds.found.walk) → other ≡ rights (labels (Twin p) rounds.found.walk)
    → Hides p es fs round other knot.left knot.right
rows_hide p knot room runs rounds e f g h =
    rw (e, f, g, h) (walks_hide p (knot.left, knot.right) runs.found.walk runs.found.some rounds.found.walk rounds.found.some)

module _ (p : Plant) (n : ℕ) (knot : Pair) (r q : Rows) (room xs ys : List ℕ)
    (enough : 8 * (n * n) ≤ length room) (kept : length xs ≡ length room)
    (runs : Shown p n Fault (record { left = 0; right = 0 }) knot room xs r)
    (same : length ys ≡ length (take (length xs - (r.left + r.right)) (drop (r.left + r.right) xs)))
    (rounds : Shown p n Any knot knot (take (length xs - (r.left + r.right)) (drop (r.left + r.right) xs)) ys q) where
  -- what the first rows take
  abbrev used : ℕ
  used = r.left + r.right

  abbrev whole : List ℕ
  whole = put_mid used (length xs - used) xs ys

  there : used ≤ length xs
  there = omega (arith, runs.short_left, runs.short_right)

  row_3 : part (r.left + r.right) q.left whole ≡ lefts (labels (Twin p) rounds.found.walk)
  row_3 = ap (λ (k : ℕ). part k q.left whole) (sym (add-zero used)) ∙ part_back used xs ys there same 0 q.left ∙ rounds.laid.left

  row_4 : part (r.left + (r.right + q.left)) q.right whole ≡ rights (labels (Twin p) rounds.found.walk)
  row_4 = ap (λ (k : ℕ). part k q.right whole) (sym (add_assoc r.left r.right q.left)) ∙ part_back used xs ys there same q.left q.right ∙ rounds.laid.right

  behind : drop (r.left + (r.right + (q.left + q.right))) whole ≡ drop (r.left + (r.right + (q.left + q.right))) room
  behind =
      let at = add_assoc r.left r.right (q.left + q.right) in
      ap (λ (k : ℕ). drop k whole) (sym at) ∙ lent_rest used xs ys there same room (q.left + q.right) runs.laid.rest rounds.laid.rest ∙ ap (λ (k : ℕ). drop k room) at

  pub all_laid : HiddenIn p (record { bad = r.left; good = r.right; bad_round = q.left; good_round = q.right }) room whole
  all_laid = record {
    s = knot.left;
    t = knot.right;
    same_length = lent_size used xs ys there same ∙ kept;
    fits = omega (arith, runs.short_left, runs.short_right, rounds.short_left, rounds.short_right);
    rest = behind;
    hides =
        rows_hide p knot room runs rounds (part_front used xs ys there same 0 r.left (omega arith) ∙ runs.laid.left)
        (part_front used xs ys there same r.left r.right (omega arith) ∙ runs.laid.right) row_3 row_4;
  }
