-- Where each parameter has an argument and no argument holds a parameter, none is left.
use Rattle.tt_kinds.proofs.ParamLaws.{holds_param-put}
use Rattle.tt_kinds.proofs.laws.replacement_leaves_no_parameter.Goals as goal

pub returns : goal.returns
returns c = holds_param-put
