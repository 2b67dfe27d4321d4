use Rattle.labelling.proofs.Growing.{normal_count}
use Rattle.labelling.proofs.Renumbering.{normal_form}
use Rattle.labelling.proofs.theorems.normal_forms.Goals as goal

pub returns : goal.returns
returns c = (normal_form, normal_count)
