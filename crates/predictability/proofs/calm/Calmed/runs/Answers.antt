use Rattle.std.proofs.Common.{rules}
use Rattle.plant.specs.Model.{model}
use Rattle.plant.specs.declared.parts.Mark.TheVariants.{Any}
use Rattle.witness.specs.Traced.{MarkedWalk, Shown}
use Rattle.predictability.proofs.Deciding.{calms}
use Rattle.predictability.proofs.Tracing.{marked, no_runs, traced_runs}
use Rattle.predictability.proofs.calm.Calmed.runs.Goals as goal

pub returns-then-pair-eq0 : goal.returns-then-pair-eq0
returns-then-pair-eq0 c = no_runs c.args.self.plant c.args.self.calm c.args.events c.args.pair (calms c.args.self) c.requires.caught _ c.if-pair-eq0.true

pub unwrap-requires : goal.unwrap-requires
unwrap-requires c =
    let walk : MarkedWalk (model c.args.self.calm) Any (record { left = 0; right = 0 }) c.args.pair = marked c.args.self.plant c.args.self.calm c.args.events c.args.pair (calms c.args.self) c.requires.caught c.if-pair-eq0.false in
    search rules

pub returns : goal.returns
returns c =
    let shown : Shown (model c.args.self.calm) c.args.self.calm.states Any (record { left = 0; right = 0 }) c.args.pair c.args.room.now c.trace.new.room c.unwrap.result = rw c.unwrap.ensures at c.trace.ensures in
    traced_runs c.args.self.plant c.args.self.calm c.args.events c.args.pair (calms c.args.self) c.requires.caught c.args.room.now c.trace.new.room c.unwrap.result shown
