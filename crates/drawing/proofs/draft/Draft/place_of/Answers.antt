use Rattle.std.proofs.Common.{rules, tests, string_bytes, vec_items, not, ap, ◌∙◌}
use Rattle.std.specs.Str.{bytes_eq}
use Rattle.std.specs.Option.{unwrap_or}
use Rattle.std.proofs.lemmas.Iterator.{YieldsList-from_slice}
use Rattle.std.proofs.lemmas.Iterator.Search.{position_from_yields_List}
use Rattle.std.proofs.lemmas.List.Sums.{prefix_len-le-length}
use Rattle.grammar.proofs.Cuts.{found_or}
use Rattle.drawing.proofs.Places.{place-map}
use Rattle.drawing.proofs.draft.Draft.place_of.Goals as goal

pub returns : goal.returns
returns c =
    let w = c.args.name.now in
    let ns = vec_items c.args.self.now.names in
    let at = position_from_yields_List (λ s. bytes_eq (string_bytes s) w) _ _ c.position.result c.position.ensures.ran (YieldsList-from_slice ns cc) (λ x b q k. search (rules, tests)) in
    c.unwrap_or.ensures
    ∙ ap (unwrap_or c.position.result) (c.len.ensures ∙ c.args.self.now.names.ok.0)
    ∙ found_or _ _ _ at (prefix_len-le-length (λ s. not (bytes_eq (string_bytes s) w)) ns)
    ∙ place-map ns w
