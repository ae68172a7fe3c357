use Rattle.std.proofs.Common.{rules, sym}
use Rattle.art_writing.proofs.Entered.{beside_for}
use Rattle.art_writing.proofs.insert.InsertPoint.add_child.Goals as goal

pub add_child_between-requires : goal.add_child_between-requires
add_child_between-requires g c = (
  search rules,
  (
    c.requires.point,
    (
      c.requires.answers,
      (
        beside_for c.args.self.key_bytes_used (sym c.as_bytes.ensures) c.links_of_child-links.ensures.beside,
        c.links_of_child-links.ensures.few,
      ),
    ),
  ),
)
