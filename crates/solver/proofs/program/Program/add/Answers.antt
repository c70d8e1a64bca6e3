use Rattle.std.proofs.Common.{◌≡◌, ◌++◌, ◌∷◌, [], rules, sym, subst}
use Rattle.solver.specs.Program.{IsProgram}
use Rattle.solver.specs.Written.{IsWritten}
use Rattle.solver.proofs.OutcomeLaws.{succeeded}
use Rattle.solver.proofs.ProgramLaws.{impl_owned, impl_stays, program_next, program_stays}
use Rattle.tt_interner.proofs.Growth.{Extends-trans}
use Rattle.solver.proofs.program.Program.add.Goals as goal
use Rattle.solver.proofs.program.Program.add.Goals.{in-Ok-push, in-Err-push}

pub returns-in-Err-clause-program : goal.returns-in-Err-clause-program
returns-in-Err-clause-program c =
    program_stays c.args.cx.now c.never_arguments.new.cx c.never_arguments.ensures.extends c.args.self.now c.requires.program

pub returns-then-is_err-clause-program : goal.returns-then-is_err-clause-program
returns-then-is_err-clause-program c =
    program_stays c.args.cx.now c.check_impl-written.new.cx (Extends-trans c.never_arguments.ensures.extends c.check_impl-written.ensures.extends)
    c.args.self.now c.requires.program

pub returns-clause-program : goal.returns-clause-program
returns-clause-program c =
    let old = c.args.cx.now in
    let first = c.never_arguments.new.cx in
    let later = c.check_impl-written.new.cx in
    let i = c.args.implementation in
    let extends = Extends-trans c.never_arguments.ensures.extends c.check_impl-written.ensures.extends in
    let before = program_stays old later extends c.args.self.now c.requires.program in
    elim c.match-push.branch [
      | in-Ok-push w ↦ (
          let written = succeeded c.check_impl-written.result c.is_err.result c.is_err.ensures.value c.if-is_err.false c.check_impl-written.ensures.written c.in-Ok.ensures.are in
          let owned = impl_owned old first c.never_arguments.ensures.extends i c.requires.implementation in
          let stays = subst IsWritten (sym (impl_stays first later c.check_impl-written.ensures.extends i owned)) written in
          let same : c.push.new.self.items ≡ c.args.self.now ++ i ∷ [] = search rules in
          subst (IsProgram later) (sym same)
          (program_next later c.args.self.now i before (impl_owned old later extends i c.requires.implementation) stays))
      | in-Err-push w ↦ (
          let same : c.push.new.self.items ≡ c.args.self.now = search rules in
          subst (IsProgram later) (sym same) before)
    ]
