use Rattle.search_core.proofs.Boxing.{box_of_path}
use Rattle.search_core.proofs.laws.an_assignment_lies_in_the_box_of_a_path_that_it_meets.Goals as goal

pub returns : goal.returns
returns c = box_of_path
