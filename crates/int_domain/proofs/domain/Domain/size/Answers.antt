use Rattle.std.proofs.Common.{◌∙◌, ap, length}
use Rattle.int_domain.proofs.domain.Domain.size.Goals as goal

pub returns : goal.returns
returns c = c.self.invariant.counted ∙ ap length c.self.view_is
