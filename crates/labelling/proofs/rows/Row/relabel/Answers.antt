use Rattle.std.proofs.Common.{ℕ, ◌/◌, ◌%◌, cond, eqb, get_or, rules, arith, tests}
use Rattle.labelling.proofs.Relabelling.{made, written}
use Rattle.labelling.proofs.rows.Row.relabel.Goals as goal

pub returns : goal.returns
returns c =
    written c.args.events.now c.args.self.labels c.from_fn.result c.requires (omega arith) c.from_fn.ensures.items.long
    (made (λ (k : ℕ). cond (eqb (k % 2) 0) (get_or c.args.self.labels (k / 2) 0) (get_or c.args.events.now k 0)) c.from_fn.result 128 c.from_fn.ensures.items (λ k y q h. search (rules, tests)))
