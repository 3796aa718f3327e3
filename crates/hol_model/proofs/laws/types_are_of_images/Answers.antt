use Rattle.hol_model.proofs.Terms.NamedTests.{types_are_of_images}
use Rattle.hol_model.proofs.laws.types_are_of_images.Goals as goal

pub returns : goal.returns
returns c = types_are_of_images
