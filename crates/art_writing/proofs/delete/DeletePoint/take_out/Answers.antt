use Rattle.std.proofs.Common.{rules, ◌≡◌, refl, sym, ◌∙◌, subst}
use Rattle.art_model.specs.Prelude.{of_key}
use Rattle.art_writing.specs.Deleted.{parent_change, no_parent}
use Rattle.art_writing.specs.TakenOut.{IsLetGo}
use Rattle.art_writing.proofs.Deletions.{taken_out_of}
use Rattle.art_writing.proofs.Removals.{is_alone, alone_ready, alone_deleted}
use Rattle.art_writing.proofs.delete.DeletePoint.take_out.Goals as goal
use Rattle.art_writing.proofs.delete.DeletePoint.take_out.Goals.{Joined-last_step, in-None, in-Some}
use Rattle.art_writing.proofs.delete.DeletePoint.take_out.Given.{Over}

-- the leaf has no parent, or is no longer a child of it
let_go : (g : Over) (c : Joined-last_step g) →
    IsLetGo (of_key g.K.AsBytes.bytes) g.row.P c.args.store.now c.match-last_step.store c.args.root c.args.self c.match-last_step.new_root
let_go g c =
    let bytes = of_key g.K.AsBytes.bytes in
    let s = c.args.store.now in
    let (pairs, layout, x, by, leads) = c.requires in
    elim c.match-last_step.branch [
      | in-None w ↦
          let none = sym c.last_step.ensures ∙ w.in-None.is in
          let alone = is_alone by leads none in
          let ready = alone_ready alone in
          let told : parent_change s c.args.self.path ≡ no_parent = rw (parent_change, none) refl in
          subst (λ u. IsLetGo bytes g.row.P s u c.args.root c.args.self c.match-last_step.new_root) (sym w.store-is)
          (subst (IsLetGo bytes g.row.P s s c.args.root c.args.self) (sym w.new_root-is) (record {
            leaf = ready.0;
            beside = ready.1;
            taken = λ t done leaf. taken_out_of c.requires (alone_deleted alone leaf told) no_parent told (λ kind e. absurd cc) leaf.promise;
          }))
      | in-Some w ↦
          subst (λ u. IsLetGo bytes g.row.P s u c.args.root c.args.self c.match-last_step.new_root) (sym w.store-is)
          (subst (IsLetGo bytes g.row.P s w.take_from_parent-name.new.store c.args.root c.args.self) (sym w.new_root-is) w.take_from_parent-name.ensures)
    ]

pub take_leaf-requires : goal.take_leaf-requires
take_leaf-requires g c =
    let gone = let_go g (goal.at.take_leaf-requires g c).Joined-last_step in
    (search rules, (gone.leaf, gone.beside))

pub returns : goal.returns
returns g c =
    let gone = let_go g (goal.at.returns g c).Joined-last_step in
    gone.taken c.take_leaf.new.store c.take_leaf.result c.take_leaf.ensures
