use Rattle.diagnosability.proofs.Rooms.{enough}
use Rattle.predictability.proofs.entry.foretell.Goals as goal

pub decide-requires : goal.decide-requires
decide-requires c =
    simp c.new-calmed.ensures.0 (enough _ _ _ _ c.in_ok-check.ensures)
