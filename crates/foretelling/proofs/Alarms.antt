-- An alarm stays, so only the last moment before a fault matters. Assumes nothing.
use Rattle.std.proofs.Common.{◌≡◌, ℕ, ◌<◌, ◌≤◌, min, false, ◌⊎◌, List, [], ◌++◌, sym, refl, ap, ◌∙◌, subst, inl, inr, arith}
use Rattle.std.proofs.lemmas.Bool.{cases_lt}
use Rattle.plant.specs.Plant.{Plant, seen, faulty}
use Rattle.plant.specs.Theorems.{Within}
use Rattle.plant.proofs.Known.{cut_signs, fine_early, or_false_left}
use Rattle.plant.proofs.Runs.{seen-append, faulty-append}
use Rattle.foretelling.specs.Foretelling.{Lasts, Alarm, Foretells}
use Rattle.foretelling.specs.Theorems.{AlarmStays, AtLast, LastMoment, NotForetold, InNone, Unwarned}
use Rattle.foretelling.proofs.Lasting.{lasts_fewer, lasts_earlier, lasts_none, settles}

pub alarm_stays : AlarmStays
alarm_stays p n late early alarm es t r fine shows l =
    let k = cut_signs p r (seen p late) (seen p early) (shows ∙ seen-append p late early) in
    let whole : faulty p (k.late ++ k.early) ≡ false = sym (ap (faulty p) k.whole) ∙ fine in
    let late-fine = or_false_left (faulty p k.late) (faulty p k.early) (sym (faulty-append p k.late k.early) ∙ whole) in
    alarm k.early k.mid k.first (fine_early p k.late k.early whole) k.seen_first (lasts_earlier p k.then late-fine l)

pub last_moment : LastMoment
last_moment p n = (at_last, foretells)
  where
    at_last : Foretells p n → AtLast p n
    at_last told es s r fine fault strikes =
        let w = told es s r fine fault strikes in
        subst (λ (l : List ℕ). Alarm p n (seen p l)) (sym w.whole) (alarm_stays p n w.late w.early w.alarm)

    foretells : AtLast p n → Foretells p n
    foretells at es s r fine fault strikes = record { early = es; late = []; whole = refl; alarm = at es s r fine fault strikes }

pub not_foretold : NotForetold
not_foretold p n m told =
    let k = m.misses in
    (last_moment p n).0 told m.es k.s k.runs.run k.runs.fine m.fault k.strikes m.fs k.t k.runs.run_2 k.runs.fine_2 (sym k.runs.same)
    (record { later = m.later; on = k.goes_on; many = m.many })

pub in_none : InNone
in_none p told es s r fine fault strikes = (last_moment p 0).0 told es s r fine fault strikes es s r fine refl (lasts_none p s)

-- as many events as n or as there are states, whichever is less
pub lasts_least : (p : Plant) (k n t : ℕ) → Within k p → 1 ≤ k → Lasts p (min n k) t → Lasts p n t
lasts_least p k n t within some l = by_order (cases_lt n k)
  where
    by_order : (n < k) ⊎ (k ≤ n) → Lasts p n t
    by_order (inl h) = let e : min n k ≡ n = omega arith in subst (λ (j : ℕ). Lasts p j t) e l
    by_order (inr h) = let e : min n k ≡ k = omega arith in settles p k n t within some (subst (λ (j : ℕ). Lasts p j t) e l)

pub unwarned : Unwarned
unwarned p k n within some es fault fs later m many late early whole alarm =
    alarm_stays p n late early alarm fs m.t m.runs.run_2 m.runs.fine_2 (sym m.runs.same ∙ ap (seen p) whole)
    (lasts_least p k n m.t within some (record { later = later; on = m.goes_on; many = many }))

-- what goes on by n events goes on by fewer
pub least_alarm : (p : Plant) (k n : ℕ) → AtLast p (min n k) → AtLast p n
least_alarm p k n at es s r fine fault strikes fs t q fine_2 same l = at es s r fine fault strikes fs t q fine_2 same (lasts_fewer p (min n k) n (omega arith) l)
