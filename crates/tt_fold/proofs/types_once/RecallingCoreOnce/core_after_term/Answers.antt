use Rattle.std.proofs.Common.{refl, sym, ◌∙◌}
use Rattle.std.proofs.lemmas.Bool.{true≢false}
use Rattle.tt_interner.proofs.Growth.{Extends-refl}
use Rattle.tt_fold.specs.Steps.{tree_by}
use Rattle.tt_fold.proofs.MemoryLaws.{note_owned}
use Rattle.tt_fold.proofs.TypeLaws.{is-type, no-type}
use Rattle.tt_fold.proofs.TypesOnceSteps.{noted_stored}
use Rattle.tt_fold.proofs.types_once.RecallingCoreOnce.core_after_term.Goals as goal

pub returns-in_ok-note-in-Types : goal.returns-in_ok-note-in-Types
returns-in_ok-note-in-Types g c =
    let part = rw c.typed.ensures at c.requires.before in
    let part_after = rw c.typed-in-Types.ensures at c.requires.rebuilt.owned in
    let is = is-type c.args._cx.now.rows c.typed.result part in
    let put = c.in_ok-note-in-Types.ensures.ok in
    record {
      extends = Extends-refl _;
      is_owned = (c.requires.owned.0, rw put (note_owned c.args._cx.now.rows c.typed.result 0 c.typed-in-Types.result c.args.self.now.memory part part_after c.requires.owned.1));
      outcome = (
        c.requires.rebuilt,
        (
          refl,
          λ _. noted_stored (tree_by g.F.TypeReplacer.shape) g.F.TypeReplacer.hooks c.args._cx.now.rows _ c.args._cx.now.counters c.args.self.now.memory c.note.new.self c.args.before c.args.rebuilt c.typed.result c.typed-in-Types.result c.typed.ensures c.typed-in-Types.ensures put,
          λ other. absurd (true≢false (sym is ∙ rw c.typed.ensures at other)),
        ),
      );
    }

pub returns-in_default : goal.returns-in_default
returns-in_default g c =
    let other = no-type c.args._cx.now.rows c.args.before c.in_default.not-Types c.requires.before in
    record {
      extends = Extends-refl _;
      is_owned = c.requires.owned;
      outcome = (c.requires.rebuilt, (refl, (λ is_ty. absurd (true≢false (sym is_ty ∙ other))), λ _. refl));
    }
