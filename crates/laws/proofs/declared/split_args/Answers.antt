-- by the law, of what the call promises
use Rattle.laws.proofs.declared.split_args.Goals as goal

pub returns : goal.returns
returns c = c.alias_args_are_joined.ensures c.args.cx.now c.trait_ref_and_own_args.new.cx c.args.alias c.trait_ref_and_own_args.result c.trait_ref_and_own_args.ensures.trait_ref c.trait_ref_and_own_args.ensures.own
