use Rattle.diagnosability.proofs.Rooms.{enough}
use Rattle.diagnosability.proofs.entry.judge.Goals as goal

pub decide-requires : goal.decide-requires
decide-requires c = simp c.new.ensures.0 (enough _ _ _ _ c.in_ok-check.ensures)
