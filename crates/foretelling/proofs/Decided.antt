-- Each fault is foretold, or two runs show that one is not: decided by a search of pairs of states. Assumes nothing.
use Rattle.std.proofs.Common.{◌≡◌, ℕ, true, false, ◌⊎◌, List, [], ◌∷◌, length, sym, refl, ap, ◌∙◌, subst, inl, inr, arith}
use mathlib.Core.Bool.{Bool-discrete}
use native.Mathlib.Decide.{ℕ_discrete, map_dec}
use Rattle.graph.specs.Member.{Among, here}
use Rattle.graph.specs.Product.{lefts, rights}
use Rattle.graph.specs.Walk.{Walk, labels, count, Finite}
use Rattle.graph.proofs.Member.{some_among?, both?, three?, pairs, among_pairs, pairs_among}
use Rattle.graph.proofs.Product.{product_finite, product_among}
use Rattle.graph.proofs.Reach.{walk?, AtLeast, at_least?}
use Rattle.graph.proofs.Walk.{count-labels, stays_inside}
use Rattle.plant.specs.declared.parts.Arrow.{Arrow}
use Rattle.plant.specs.Plant.{Plant, Run, faulty}
use Rattle.plant.specs.Twin.{Goes, GoesFine, Twin}
use Rattle.plant.proofs.States.{goes_finite, fine_finite, reached, ends_reached}
use Rattle.plant.proofs.Traces.{run_trace, trace_run, count_all}
use Rattle.foretelling.specs.Foretelling.{Strikes, Lasts, Foretells, Missed}
use Rattle.foretelling.specs.Theorems.{ForetoldOrMissed}
use Rattle.foretelling.specs.Calm.{calm}
use Rattle.foretelling.proofs.Lasting.{lasts_by}
use Rattle.foretelling.proofs.Calm.{run_calm, calm_run, alike_walk, walk_alike}
use Rattle.foretelling.proofs.Striking.{struck_by, struck_arrow}

module _ (p : Plant) (n : ℕ) where
  struck? : (s : ℕ) → Dec ((f : List ℕ) × Strikes p s f)
  struck? s = map_dec found listed (some_among? p.arrows (λ a m. both? (ℕ_discrete a.from s) (Bool-discrete (p.fault a.event) true)))
    where
      Listed : Type 0
      Listed = (a : Arrow) × Among a p.arrows × ((a.from ≡ s) × (p.fault a.event ≡ true))

      found : Listed → (f : List ℕ) × Strikes p s f
      found (a, m, (e, f)) = (a.event ∷ [], subst (λ (k : ℕ). Strikes p k (a.event ∷ [])) e (struck_by p m f))

      listed : (f : List ℕ) × Strikes p s f → Listed
      listed (f, k) = let b = struck_arrow p k in (record { from = s; event = b.0; to = b.1 }, b.2, (refl, b.3))

  abbrev states : List ℕ
  states = reached (calm p)

  abbrev fin : Finite (Goes (calm p))
  fin = goes_finite (calm p) states (ends_reached (calm p))

  abbrev fin₂ : Finite (GoesFine (calm p))
  fin₂ = fine_finite (calm p) states (ends_reached (calm p))

  first : Among 0 states
  unfolding reached
  first = here _

  lasts? : (t : ℕ) → Among t states → Dec (Lasts p n t)
  unfolding goes_finite
  lasts? t m = map_dec found listed (some_among? states (λ u k. at_least? (Goes (calm p)) fin (λ e. true) n t u m))
    where
      Long : ℕ → Type 0
      Long u = AtLeast (Goes (calm p)) fin (λ e. true) n t u

      length_of : {u : ℕ} (w : Walk (Goes (calm p)) t u) → count (Goes (calm p)) (λ e. true) w ≡ length (labels (Goes (calm p)) w)
      length_of w = count-labels (Goes (calm p)) (λ e. true) w ∙ count_all (labels (Goes (calm p)) w)

      found : (u : ℕ) × Among u states × Long u → Lasts p n t
      found (u, k, (w, h)) =
          let r = calm_run p (trace_run (calm p) t u (labels (Goes (calm p)) w) (w, refl)) in
          lasts_by p n r.0 r.1 (omega (arith, length_of w))

      listed : Lasts p n t → (u : ℕ) × Among u states × Long u
      listed l =
          let w = run_trace (calm p) (run_calm p l.on.run l.on.fine) in
          (l.on.end, stays_inside (Goes (calm p)) fin w.0 m, (w.0, omega (arith, length_of w.0, ap length w.1, l.many)))

  Found : Type 0
  Found = (x : ℕ × ℕ) × Among x (pairs states states) × (Walk (Twin (calm p)) (0, 0) x × ((f : List ℕ) × Strikes p x.0 f) × Lasts p n x.1)

  found? : Dec Found
  unfolding Found goes_finite fine_finite
  found? =
      some_among? (pairs states states)
      (λ x m. three? (walk? (Twin (calm p)) (product_finite (Goes (calm p)) p.shows (GoesFine (calm p)) p.shows fin fin₂) (0, 0) x (product_among (Goes (calm p)) p.shows (GoesFine (calm p)) p.shows fin fin₂ first first)) (struck? x.0) (lasts? x.1 (pairs_among states states x m).1))

  missed : Found → Missed p n
  unfolding Found
  missed (x, m, (w, (f, k), l)) = record {
    es = lefts (labels (Twin (calm p)) w);
    fault = f;
    fs = rights (labels (Twin (calm p)) w);
    later = l.later;
    misses = record { s = x.0; t = x.1; runs = walk_alike p w; strikes = k; goes_on = l.on };
    many = l.many;
  }

  ends_in : {t : ℕ} {es : List ℕ} → Run p 0 es t → faulty p es ≡ false → Among t states
  unfolding goes_finite
  ends_in r fine = stays_inside (Goes (calm p)) fin (run_trace (calm p) (run_calm p r fine)).0 first

  foretold : (Found → ⊥) → Foretells p n
  unfolding Found
  foretold none es s r fine f k =
      record {
        early = es;
        late = [];
        whole = refl;
        alarm = λ fs t q fine_2 same l.
            none ((s, t), among_pairs states (ends_in r fine) (ends_in q fine_2), (alike_walk p (record { run = r; fine = fine; run_2 = q; fine_2 = fine_2; same = sym same }), (f, k), l));
      }

pub foretold_or_missed : ForetoldOrMissed
foretold_or_missed p n = cases (found? p n)
  where
    cases : Dec (Found p n) → Foretells p n ⊎ Missed p n
    cases (yes f) = inr (missed p n f)
    cases (no none) = inl (foretold p n none)
