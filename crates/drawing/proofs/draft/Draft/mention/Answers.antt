use Rattle.std.proofs.Common.{[], ◌∷◌, ◌++◌, refl, ◌∙◌, arith}
use Rattle.drawing.proofs.Places.{mention_old, mention_new}
use Rattle.drawing.proofs.draft.Draft.mention.Goals as goal

pub returns-then-place-len : goal.returns-then-place-len
returns-then-place-len c = mention_old c.args.self.now c.args.name.now c.place_of-place.result c.place_of-place.ensures c.min.result c.len.result c.min.ensures c.len.ensures c.then-place-len.either

pub returns : goal.returns
returns c =
    mention_new c.args.self.now c.args.name.now c.place_of-place.result c.place_of-place.ensures _ c.in_ok-name.name
    (omega arith) (omega arith)
    c.in_ok-push.ensures.items
    (c.in_ok-push-2.ensures.items ∙ (λ j. c.reserve.ensures.items j ++ (record { sign = c.default.ensures.0 j; fault = c.default.ensures.1 j } ∷ [])))
    refl
    c.in_ok-name.ensures.ok
