-- A verdict on what was opened. Assumes nothing.
use Rattle.std.proofs.Common.{◌≡◌, ℕ, ◌*◌, ◌≤◌, cond, List, Some, None, Ok, Err, Result, ap, ◌∙◌, subst, mul-le-mul_right, arith, refl, IsOk}
use Rattle.std.proofs.lemmas.Bool.{le-ltb}
use Rattle.plant.specs.Plant.{Plant}
use Rattle.plant.specs.Refusals.{refusal}
use Rattle.plant.specs.declared.parts.Refusal.{Refusal}
use Rattle.plant.specs.declared.parts.Refusal.TheVariants.{Room}
use Rattle.plant.proofs.Valid.{refused_or_valid}
use Rattle.diagnosability.specs.Verdict.{Judges, judge_refusal, room_refusal}
use Rattle.diagnosability.specs.declared.verdict.Verdict.{Verdict}
use Rattle.drawing.specs.Drawn.{Drawn, drawn}
use Rattle.wording.specs.Sentences.{sentence}
use Rattle.command.specs.declared.valid.Opened.{Opened}
use Rattle.sorts.specs.declared.kinds.Faults.{Faults}
use Rattle.command.specs.Texts.{Holds, Judged, OpenedAs, opened_plant, plant_of}

square : (n : ℕ) → n ≤ 32 → n * n ≤ 1024
square n le = omega (arith, mul-le-mul_right n le)

roomy : (n : ℕ) → n ≤ 32 → room_refusal n 8192 ≡ None
unfolding room_refusal
roomy n le = ap (λ b. cond b (Some (Room 8192)) None) (le-ltb 8192 (8 * (n * n)) (omega (arith, square n le)))

-- the largest room that is asked for is enough for every plant
pub enough : (n : ℕ) (xs es : List ℕ) (room : ℕ) → refusal n xs es ≡ None → room ≡ 8192 → judge_refusal n xs es room ≡ None
enough n xs es room e long =
    let v = (refused_or_valid n xs es).0 e in
    rw (long, e) (roomy n v.few_states)

module _ (refused : _) (p : Plant) (room room₁ : List ℕ) (none : refused ≡ None) where
  -- where no rule turns away what is lent there is a verdict
  pub answered : (r : Result Verdict Refusal) → Judges refused p room r room₁ → IsOk r
  answered (Ok v) j = refl
  answered (Err e) j = let is = j.0 in cc

  -- and it holds of the plant
  pub holds : (v : Verdict) → Judges refused p room (Ok v) room₁ → Holds p v room₁
  holds v j = record { lent = room; says = j.1 }

-- what was opened is what is drawn: its sentence, by its parts as they are lent
pub judged :
    {f : Faults} {d : Drawn} {o : Opened} {bytes : List ℕ} {v : Verdict} {room : List ℕ} → OpenedAs f d o → Holds (opened_plant o) v room → (ws : List (List ℕ)) (said : Verdict) (lent : List ℕ)
    → ws ≡ (drawn o.drawing).labels → said ≡ v → lent ≡ room → bytes ≡ sentence ws said lent → Judged d.labels (plant_of f d) bytes
judged {f} {d} {o} {bytes} {v} {room} a h ws said lent names same kept text =
    let labels : ws ≡ d.labels = names ∙ ap (λ e. e.labels) a.drawing in
    record {
      verdict = v;
      room = room;
      holds = subst (λ p. Holds p v room) a.plant h;
      text = text ∙ (λ j. sentence (labels j) (same j) (kept j));
    }
