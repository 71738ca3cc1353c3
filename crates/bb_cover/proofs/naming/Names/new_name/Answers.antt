use Rattle.std.proofs.Common.{◌<◌, arith, subst}
use Rattle.bb_machine.specs.declared.machine.TheConstants.{MAX_STATES}
use Rattle.bb_cover.proofs.Renamings.{any_default, name_below}
use Rattle.bb_cover.proofs.naming.Names.new_name.Goals as goal

pub returns-clause-few : goal.returns-clause-few
returns-clause-few c =
    let names = c.args.self.now in
    subst (λ x. x < MAX_STATES)
    (any_default names.new c.args.old c.args.old (omega (arith, names.new_whole, c.requires)))
    (name_below names.new names.old MAX_STATES names.old_whole names.old_of_new c.args.old c.requires)
