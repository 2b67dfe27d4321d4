-- All labellings in normal form are tried, and the best of these is the best of all. Assumes nothing.
use Rattle.std.proofs.Common.{◌≡◌, ℕ, suc, ◌+◌, ◌<◌, ◌≤◌, max, Bool, true, false, cond, ◌≢◌, List, [], ◌∷◌, ◌++◌, length, get_or, take, set, replicate, sym, refl, ap, ◌∙◌, subst, ⊎_elim, true≢false, arith, length-set, length-take}
use Rattle.std.proofs.lemmas.List.{get_or-set_same, get_or-set_other, get_or_past, take_more_set, append_assoc, append-nil}
use Rattle.std.proofs.lemmas.Bool.{cases_lt, cases_eq}
use Rattle.plant.specs.Plant.{Plant, ComesOut}
use Rattle.views.specs.Views.{FinerView}
use Rattle.views.proofs.Finer.{finer_out, renaming}
use Rattle.labelling.specs.declared.rows.Row.{Row}
use Rattle.labelling.specs.Labels.{Labels, Does, labelled, signs, FewestSigns, NoLabelling}
use Rattle.labelling.specs.Trials.{Grown, top, Normal, Own, Sound, SameSigns, Rest, Improved, Improving}
use Rattle.labelling.proofs.Growing.{top_over, number_under, top_small, grown_push, top_push, normal_count}
use Rattle.outcome.proofs.Changed.{zeros}
use Rattle.labelling.proofs.Relabelling.{take_same}
use Rattle.labelling.proofs.Renumbering.{normal_form}

module _ (p : Plant) where
  -- there are no more signs than numbers
  pub few_signs : (at : ℕ) (l : Row) → Normal p at l → l.signs ≤ at
  few_signs at l n = let h = top_small 0 (take at l.labels) n.grown in omega (arith, n.counts, length-take at l.labels)

  pub number_small : (at : ℕ) (l : Row) → Normal p at l → (e : ℕ) → get_or l.labels e 0 ≤ l.signs
  number_small at l n e =
      let h = number_under 0 (take at l.labels) e in
      let s = take_same at l.labels n.past e in
      omega (arith, n.counts)

  -- before the first number
  pub normal_none : (l : Row) → l.labels ≡ replicate 64 0 → l.signs ≡ 0 → Normal p 0 l
  unfolding Grown top
  normal_none l e s = record {
    size = ap length e;
    grown = tt;
    counts = s;
    faults = λ d h. rw e (zeros 64 d);
    past = λ d h. rw e (zeros 64 d);
  }

  pub own_none : (l : Row) → l.labels ≡ replicate 64 0 → Own p 0 l
  own_none l e = record {
    some = λ d h f. absurd (omega arith);
    only = λ d b h s. let z : get_or l.labels d 0 ≡ 0 = rw e (zeros 64 d) in absurd (omega arith);
  }

  -- one number more
  module _ (at k : ℕ) (l l₁ : Row) (room : at < length l.labels) (n : Normal p at l) (is : l₁.labels ≡ set l.labels at k) (many : l₁.signs ≡ max l.signs k) where
    pub front : take (at + 1) l₁.labels ≡ take at l.labels ++ (k ∷ [])
    front = ap (take (at + 1)) is ∙ take_more_set l.labels at k room

    here : get_or l₁.labels at 0 ≡ k
    here = ap (λ (xs : List ℕ). get_or xs at 0) is ∙ get_or-set_same l.labels at k 0 room

    other : (e : ℕ) → e ≢ at → get_or l₁.labels e 0 ≡ get_or l.labels e 0
    other e ne = ap (λ (xs : List ℕ). get_or xs e 0) is ∙ get_or-set_other l.labels at e k 0 ne

    pub normal_more : k ≤ suc l.signs → (p.fault at ≡ true → k ≡ 0) → Normal p (at + 1) l₁
    normal_more le fault = record {
      size = ap length is ∙ length-set l.labels at k ∙ n.size;
      grown = rw front (grown_push 0 (take at l.labels) k n.grown (omega (arith, n.counts)));
      counts = rw front (many ∙ ap (λ (u : ℕ). max u k) n.counts ∙ sym (top_push 0 (take at l.labels) k));
      faults = λ e f. ⊎_elim (λ same. ap (λ (d : ℕ). get_or l₁.labels d 0) same ∙ here ∙ fault (subst (λ (d : ℕ). p.fault d ≡ true) same f)) (λ ne. other e ne ∙ n.faults e f) (cases_eq e at);
      past = λ e h. other e (λ z. omega arith) ∙ n.past e (omega arith);
    }

    -- a sign of its own
    old_under : (e : ℕ) → e ≢ at → get_or l₁.labels e 0 ≤ l.signs
    old_under e ne = let h = number_small at l n e in omega (arith, other e ne)

    pub own_more : (b : Bool) → p.fault at ≡ b → k ≡ cond b 0 (l.signs + 1) → Own p at l → Own p (at + 1) l₁
    own_more b fault kind own = record {
      some = λ e h f.
          ⊎_elim (λ same. some_by b fault kind (subst (λ (d : ℕ). p.fault d ≡ false) same f) e same) (λ ne. let o = own.some e (omega arith) f in omega (arith, other e ne)) (cases_eq e at);
      only = λ e d some same.
          ⊎_elim (λ a. ⊎_elim (λ c. a ∙ sym c) (λ c. absurd (apart b kind e d a c some same)) (cases_eq d at))
          (λ a. ⊎_elim (λ c. absurd (apart b kind d e c a (omega arith) (sym same))) (λ c. own.only e d (omega (arith, other e a)) (sym (other e a) ∙ same ∙ other d c)) (cases_eq d at)) (cases_eq e at);
    }
      where
        some_by : (b : Bool) → p.fault at ≡ b → k ≡ cond b 0 (l.signs + 1) → p.fault at ≡ false → (e : ℕ) → e ≡ at → 1 ≤ get_or l₁.labels e 0
        some_by true f kind g e same = absurd (true≢false (sym f ∙ g))
        some_by false f kind g e same = let at-e : get_or l₁.labels e 0 ≡ k = ap (λ (d : ℕ). get_or l₁.labels d 0) same ∙ here in omega arith

        apart : (b : Bool) → k ≡ cond b 0 (l.signs + 1) → (e d : ℕ) → e ≡ at → d ≢ at → 1 ≤ get_or l₁.labels e 0 → get_or l₁.labels e 0 ≡ get_or l₁.labels d 0 → ⊥
        apart true kind e d a c some same = let at-e : get_or l₁.labels e 0 ≡ k = ap (λ (d : ℕ). get_or l₁.labels d 0) a ∙ here in absurd (omega arith)
        apart false kind e d a c some same = let at-e : get_or l₁.labels e 0 ≡ k = ap (λ (d : ℕ). get_or l₁.labels d 0) a ∙ here in absurd (omega (arith, old_under d c))

    -- the number by itself, and any that an event can get
    pub finest_more : (b : Bool) → p.fault at ≡ b → k ≡ cond b 0 (l.signs + 1) → Own p at l → Normal p (at + 1) l₁ × Own p (at + 1) l₁
    finest_more b fault kind own = (normal_by b fault kind, own_more b fault kind own)
      where
        normal_by : (b : Bool) → p.fault at ≡ b → k ≡ cond b 0 (l.signs + 1) → Normal p (at + 1) l₁
        normal_by true f kind = normal_more (omega arith) (λ g. kind)
        normal_by false f kind = normal_more (omega arith) (λ g. absurd (true≢false (sym g ∙ f)))

    pub choice_more : (b : Bool) → p.fault at ≡ b → k ≤ cond b 0 (l.signs + 1) → Normal p (at + 1) l₁
    choice_more true f le = normal_more (omega arith) (λ g. omega arith)
    choice_more false f le = normal_more (omega arith) (λ g. absurd (true≢false (sym g ∙ f)))

  -- with no fewer signs nothing is gained
  pub improved_by_none : (m at : ℕ) (l best : Row) → Sound p m best → best.signs ≤ l.signs → Improved p m at l best best
  improved_by_none m at l best sound le = record {
    sound = sound;
    below = omega arith;
    least = λ rest r does. omega (arith, top_over l.signs rest);
  }

  -- behind the last event: the labelling itself, or none
  pub improved_does : (m : ℕ) (l best : Row) → Normal p m l → l.signs ≤ best.signs → Does p (take m l.labels) → Improved p m m l best l
  improved_does m l best n le does = record {
    sound = record { normal = n; does = does };
    below = le;
    least = λ rest r out. top_over l.signs rest;
  }

  pub improved_not : (m : ℕ) (l best : Row) → Sound p m best → (Does p (take m l.labels) → ⊥) → Improved p m m l best best
  improved_not m l best sound not-does = record { sound = sound; below = omega arith; least = least }
    where
      least : (rest : List ℕ) → Rest p m m l.signs rest → Does p (take m l.labels ++ rest) → best.signs ≤ top l.signs rest
      least [] r does = absurd (not-does (subst (Does p) (append-nil (take m l.labels)) does))
      least (k ∷ rest) r does = absurd (omega (arith, r.size))

  -- no number is tried before the first
  pub improving_none : (m at : ℕ) (l best : Row) → Sound p m best → Improving p m at 0 l best best
  improving_none m at l best sound = record { sound = sound; below = omega arith; least = λ rest r h does. absurd (omega arith) }

  -- one number more is tried
  pub improving_more : (m at k : ℕ) (l l₁ old found next : Row) → at < m → at < length l.labels → Normal p at l → l₁.labels ≡ set l.labels at k → l₁.signs ≡ max l.signs k
      → Improving p m at k l old found → Improved p m (at + 1) l₁ found next → Improving p m at (k + 1) l old next
  unfolding Grown top
  improving_more m at k l l₁ old found next lt room n is many so_far new = record { sound = new.sound; below = omega (arith, new.below, so_far.below); least = least }
    where
      tried : (rest : List ℕ) → Rest p m at l.signs (k ∷ rest) → Does p (take at l.labels ++ (k ∷ rest)) → next.signs ≤ top (max l.signs k) rest
      tried rest r does =
          let joined : take at l.labels ++ (k ∷ rest) ≡ take (at + 1) l₁.labels ++ rest = sym (append_assoc (take at l.labels) (k ∷ []) rest) ∙ ap (λ (xs : List ℕ). xs ++ rest) (sym (front at k l l₁ room n is many)) in
          let le : next.signs ≤ top l₁.signs rest = new.least rest (record {
            size = omega (arith, r.size);
            grown = rw many r.grown.1;
            faults = λ d f. r.faults (suc d) (subst (λ (e : ℕ). p.fault e ≡ true) (omega arith) f);
          }) (subst (Does p) joined does) in
          rw many at le

      least : (rest : List ℕ) → Rest p m at l.signs rest → get_or rest 0 0 < k + 1 → Does p (take at l.labels ++ rest) → next.signs ≤ top l.signs rest
      least [] r h does = absurd (omega (arith, r.size))
      least (j ∷ rest) r h does =
          ⊎_elim (λ before. omega (arith, so_far.least (j ∷ rest) r before does, new.below))
          (λ le. let same : j ≡ k = omega arith in subst (λ (i : ℕ). next.signs ≤ top (max l.signs i) rest) (sym same) (tried rest (subst (λ (i : ℕ). Rest p m at l.signs (i ∷ rest)) same r) (subst (λ (i : ℕ). Does p (take at l.labels ++ (i ∷ rest))) same does)))
          (cases_lt j k)

  -- all numbers that the next event can get are tried
  pub improving_all : (m at h : ℕ) (l old best : Row) (b : Bool) → at < m → p.fault at ≡ b → cond b 0 (l.signs + 1) < h → Improving p m at h l old best → Improved p m at l old best
  unfolding Grown
  improving_all m at h l old best b lt fault all so_far = record { sound = so_far.sound; below = so_far.below; least = least }
    where
      first : (b : Bool) → p.fault at ≡ b → cond b 0 (l.signs + 1) < h → (k : ℕ) (rest : List ℕ) → Rest p m at l.signs (k ∷ rest) → k < h
      first true fault all k rest r = let z : k ≡ 0 = r.faults 0 (subst (λ (e : ℕ). p.fault e ≡ true) (omega arith) fault) in omega arith
      first false fault all k rest r = omega (arith, r.grown.0)

      least : (rest : List ℕ) → Rest p m at l.signs rest → Does p (take at l.labels ++ rest) → best.signs ≤ top l.signs rest
      least [] r does = absurd (omega (arith, r.size))
      least (k ∷ rest) r does = so_far.least (k ∷ rest) r (first b fault all k rest r) does

  -- with signs of their own for all events no less is shown than with any labelling
  pub none_does : (m : ℕ) (f : Row) → Normal p m f → Own p m f → (Does p (take m f.labels) → ⊥) → NoLabelling p m
  unfolding ComesOut
  none_does m f n own not-does ls labels out = not-does (out.0, finer_out (labelled p ls) (labelled p (take m f.labels)) out.0 finer out.1)
    where
      shown : (e : ℕ) → get_or (take m f.labels) e 0 ≡ get_or f.labels e 0
      shown = take_same m f.labels n.past

      nothing_by : (e : ℕ) (b : Bool) → p.fault e ≡ b → get_or f.labels e 0 ≡ 0 → get_or ls e 0 ≡ 0
      nothing_by e true fault z = labels.faults e fault
      nothing_by e false fault z =
          ⊎_elim (λ lt. absurd (omega (arith, own.some e lt fault))) (λ le. get_or_past ls e 0 (omega (arith, labels.long))) (cases_lt e m)

      nothing : (e : ℕ) → get_or f.labels e 0 ≡ 0 → get_or ls e 0 ≡ 0
      nothing e z = nothing_by e (p.fault e) refl z

      alike : (e d : ℕ) → get_or f.labels e 0 ≡ get_or f.labels d 0 → get_or ls e 0 ≡ get_or ls d 0
      alike e d same =
          ⊎_elim (λ z. nothing e z ∙ sym (nothing d (sym same ∙ z))) (λ ne. ap (λ (k : ℕ). get_or ls k 0) (own.only e d (omega arith) same)) (cases_eq (get_or f.labels e 0) 0)

      finer : FinerView (labelled p ls) (labelled p (take m f.labels))
      finer = record {
        arrows = refl;
        faults = λ e. refl;
        nothing = λ e z. nothing e (sym (shown e) ∙ z);
        alike = λ e d s. alike e d (sym (shown e) ∙ s ∙ shown d);
      }

  -- a labelling does if its normal form does, and back
  does_renamed : (ls ks : List ℕ) → SameSigns ls ks → Does p ls → Does p ks
  unfolding ComesOut
  does_renamed ls ks same out = (out.0, (renaming (labelled p ls) (labelled p ks) out.0 (finer, coarser)).0 out.1)
    where
      finer : FinerView (labelled p ls) (labelled p ks)
      finer = record { arrows = refl; faults = λ e. refl; nothing = same.nothing_back; alike = same.alike_back }

      coarser : FinerView (labelled p ks) (labelled p ls)
      coarser = record { arrows = refl; faults = λ e. refl; nothing = same.nothing; alike = same.alike }

  -- the best of all in normal form is the best of all
  pub fewest : (m : ℕ) (l old best : Row) → l.signs ≡ 0 → m ≤ length best.labels → Improved p m 0 l old best → FewestSigns p m (take m best.labels) best.signs
  fewest m l old best none room all = record {
    labels = record {
      long = omega (arith, length-take m best.labels);
      faults = λ e f. take_same m best.labels all.sound.normal.past e ∙ all.sound.normal.faults e f;
    };
    counts = all.sound.normal.counts ∙ sym (normal_count (take m best.labels) all.sound.normal.grown);
    does = all.sound.does;
    least = least;
  }
    where
      least : (ls : List ℕ) → Labels p m ls → Does p ls → best.signs ≤ signs ls
      least ls labels out =
          let form = normal_form ls in
          let ks = form.0 in
          let same = form.1 in
          let le : best.signs ≤ top l.signs ks = all.least ks (record {
            size = omega (arith, same.size, labels.long);
            grown = rw none same.grown;
            faults = λ k f. same.nothing k (labels.faults k (subst (λ (e : ℕ). p.fault e ≡ true) (omega arith) f));
          }) (does_renamed ls ks same out) in
          let zero' : best.signs ≤ top 0 ks = rw none at le in
          omega (arith, same.counts)
