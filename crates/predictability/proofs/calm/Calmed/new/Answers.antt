use Rattle.predictability.proofs.Deciding.{accepted}
use Rattle.predictability.proofs.calm.Calmed.new.Goals as goal

pub new-requires-2 : goal.new-requires-2
new-requires-2 c = accepted c.args.lent c.args.arrows.now c.requires.accepted c.requires.harmless
