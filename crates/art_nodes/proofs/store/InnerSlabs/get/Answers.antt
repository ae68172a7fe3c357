use Rattle.std.proofs.Common.{ap, sym, ◌∙◌}
use Rattle.std.specs.Option.{option_map}
use Rattle.std.specs.Prelude.{option_copied}
use Rattle.art_inner.specs.Views.{ref_view}
use Rattle.art_parts.specs.declared.names.NodeType.TheVariants.{Node4, Node16, Node48, Node256}
use Rattle.art_nodes.proofs.StoreLemmas.{there_of}
use Rattle.art_nodes.proofs.store.InnerSlabs.get.Goals as goal

pub returns-in_ok-get-in-Node4-clause-view : goal.returns-in_ok-get-in-Node4-clause-view
returns-in_ok-get-in-Node4-clause-view g c =
    ap option_copied (sym c.in_ok-get-in-Node4.was) ∙ c.get.ensures ∙ sym (there_of c.args.self.now c.args.name Node4 c.in-Node4.is)

pub returns-in_ok-get-in-Node4-clause-kind : goal.returns-in_ok-get-in-Node4-clause-kind
returns-in_ok-get-in-Node4-clause-kind g c = sym c.in-Node4.is

pub returns-in_err-get-in-Node4-clause-view : goal.returns-in_err-get-in-Node4-clause-view
returns-in_err-get-in-Node4-clause-view g c =
    ap (option_map ref_view) c.from_residual.ensures
    ∙ ap option_copied (sym c.in_err-get-in-Node4.was) ∙ c.get.ensures ∙ sym (there_of c.args.self.now c.args.name Node4 c.in-Node4.is)

pub returns-in_ok-get-in-Node16-clause-view : goal.returns-in_ok-get-in-Node16-clause-view
returns-in_ok-get-in-Node16-clause-view g c =
    ap option_copied (sym c.in_ok-get-in-Node16.was) ∙ c.get-in-Node16.ensures ∙ sym (there_of c.args.self.now c.args.name Node16 c.in-Node16.is)

pub returns-in_ok-get-in-Node16-clause-kind : goal.returns-in_ok-get-in-Node16-clause-kind
returns-in_ok-get-in-Node16-clause-kind g c = sym c.in-Node16.is

pub returns-in_err-get-in-Node16-clause-view : goal.returns-in_err-get-in-Node16-clause-view
returns-in_err-get-in-Node16-clause-view g c =
    ap (option_map ref_view) c.from_residual-in_err-get-in-Node16.ensures
    ∙ ap option_copied (sym c.in_err-get-in-Node16.was) ∙ c.get-in-Node16.ensures ∙ sym (there_of c.args.self.now c.args.name Node16 c.in-Node16.is)

pub returns-in_ok-get-in-Node48-clause-view : goal.returns-in_ok-get-in-Node48-clause-view
returns-in_ok-get-in-Node48-clause-view g c =
    ap option_copied (sym c.in_ok-get-in-Node48.was) ∙ c.get-in-Node48.ensures ∙ sym (there_of c.args.self.now c.args.name Node48 c.in-Node48.is)

pub returns-in_ok-get-in-Node48-clause-kind : goal.returns-in_ok-get-in-Node48-clause-kind
returns-in_ok-get-in-Node48-clause-kind g c = sym c.in-Node48.is

pub returns-in_err-get-in-Node48-clause-view : goal.returns-in_err-get-in-Node48-clause-view
returns-in_err-get-in-Node48-clause-view g c =
    ap (option_map ref_view) c.from_residual-in_err-get-in-Node48.ensures
    ∙ ap option_copied (sym c.in_err-get-in-Node48.was) ∙ c.get-in-Node48.ensures ∙ sym (there_of c.args.self.now c.args.name Node48 c.in-Node48.is)

pub returns-in_ok-get-in-Node256-clause-view : goal.returns-in_ok-get-in-Node256-clause-view
returns-in_ok-get-in-Node256-clause-view g c =
    ap option_copied (sym c.in_ok-get-in-Node256.was) ∙ c.get-in-Node256.ensures ∙ sym (there_of c.args.self.now c.args.name Node256 c.in-Node256.is)

pub returns-in_ok-get-in-Node256-clause-kind : goal.returns-in_ok-get-in-Node256-clause-kind
returns-in_ok-get-in-Node256-clause-kind g c = sym c.in-Node256.is

pub returns-in_err-get-in-Node256-clause-view : goal.returns-in_err-get-in-Node256-clause-view
returns-in_err-get-in-Node256-clause-view g c =
    ap (option_map ref_view) c.from_residual-in_err-get-in-Node256.ensures
    ∙ ap option_copied (sym c.in_err-get-in-Node256.was) ∙ c.get-in-Node256.ensures ∙ sym (there_of c.args.self.now c.args.name Node256 c.in-Node256.is)
