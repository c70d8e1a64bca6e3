use Rattle.tt_binder.proofs.ValidateLaws.{validation_is_exact}
use Rattle.tt_binder.proofs.validate_bound_vars.validation_is_exact.Goals as goal

pub returns : goal.returns
returns c = validation_is_exact
