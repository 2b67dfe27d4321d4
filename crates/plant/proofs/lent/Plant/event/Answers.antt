use Rattle.std.proofs.Common.{refl, arith}
use Rattle.plant.specs.Numbers.{plant_in}
use Rattle.plant.proofs.Readings.{valid}
use Rattle.plant.proofs.lent.Plant.event.Goals as goal

pub overflow_cast-result : goal.overflow_cast-result
overflow_cast-result c = omega (arith, (valid c.args.self).signs _ c.if-e-self.false)

pub returns : goal.returns
unfolding plant_in
returns c = record { there = c.if-e-self.false; is = refl }
