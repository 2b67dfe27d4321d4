use Rattle.std.proofs.Common.{ℕ, ◌/◌, not, length, rules, sym, refl, ◌∙◌, arith, tests}
use Rattle.std.proofs.lemmas.Iterator.{YieldsList-from_range}
use Rattle.std.proofs.lemmas.Iterator.Adapters.{option_map_id}
use Rattle.std.proofs.lemmas.Iterator.Consumers.{YieldsList-at, YieldsList-from_filter, nth_from_yields_List}
use Rattle.labelling.specs.Refused.{fault_in}
use Rattle.labelling.proofs.Fitting.{nth_sound}
use Rattle.labelling.proofs.checks.first_over.Goals as goal

pub returns : goal.returns
returns c =
    sym (option_map_id c.nth.result)
    ∙ nth_from_yields_List c.nth.result _ 6 c.nth.ensures.ran
    (YieldsList-from_filter _ (λ (e : ℕ). not (fault_in c.args.events.now e)) (YieldsList-at c.filter.ensures.source (YieldsList-from_range 0 (length c.args.events.now / 2) (length c.args.events.now / 2) refl (omega arith))) c.filter.ensures.closure (λ x b q k. search (rules, tests)))
    ∙ nth_sound (fault_in c.args.events.now) 6 0 (length c.args.events.now / 2)
