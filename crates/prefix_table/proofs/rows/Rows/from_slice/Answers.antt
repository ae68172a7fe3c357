use Rattle.std.proofs.Common.{◌≡◌, ◌<◌, ap, ap₂, sym, ◌∙◌, length, refl, subst, arith, ◌++◌, ◌∷◌, []}
use Rattle.prefix_table.specs.declared.network.Address.{Address}
use Rattle.prefix_table.specs.declared.network.Network.{Network}
use Rattle.prefix_table.specs.Columns.{AreRows, rows_of}
use Rattle.prefix_table.specs.Networks.{IsUpTo, start_of}
use Rattle.prefix_table.specs.Sorting.{in_order}
use Rattle.prefix_table.specs.Starts.{start_at}
use Rattle.prefix_table.proofs.OrderLemmas.{in_order_network, in_order_place, length-in_order, still_in_order}
use Rattle.prefix_table.proofs.RowLemmas.{all_up_to, last_is, next_are, next_made, this_start}
use Rattle.prefix_table.proofs.rows.Rows.from_slice.Goals as goal

pub last_covering-found-requires-clause-started : goal.last_covering-found-requires-clause-started
last_covering-found-requires-clause-started c k h =
    let l = c.loop-row in
    let rows = c.args.rows.now in
    let many = length-in_order rows in
    let start = c.start_of-start.ensures ∙ ap start_of (c.network_of-network.ensures ∙ sym (in_order_network rows l.row-index (omega arith))) in
    subst (IsUpTo (start_at l.starts k)) (sym start)
    (all_up_to l.starts l.rests l.invariant.are (in_order rows) l.row-index (omega arith) l.invariant.made
    (still_in_order rows c.requires.order) k (omega (arith, c.len.ensures)))

pub push-requires-clause-order : goal.push-requires-clause-order
push-requires-clause-order c k h =
    let l = c.loop-row in
    let rows = c.args.rows.now in
    let many = length-in_order rows in
    let start = c.start_of-start.ensures ∙ ap start_of (c.network_of-network.ensures ∙ sym (in_order_network rows l.row-index (omega arith))) in
    subst (IsUpTo (start_at l.starts k)) (sym start)
    (all_up_to l.starts l.rests l.invariant.are (in_order rows) l.row-index (omega arith) l.invariant.made
    (still_in_order rows c.requires.order) k (omega (arith, l.invariant.are.lengths)))

pub loop-row-preserved : goal.loop-row-preserved
loop-row-preserved c =
    let l = c.loop-row in
    let rows = c.args.rows.now in
    let all = in_order rows in
    let as_many = length-in_order rows in
    let here : l.row-index < length rows = omega arith in
    let fits : l.row-index < length all = omega arith in
    let network = in_order_network rows l.row-index here in
    let start = c.start_of-start.ensures ∙ ap start_of (c.network_of-network.ensures ∙ sym network) in
    let starts : c.push.new.self ≡ l.starts ++ this_start l.starts l.rests l.invariant.are all l.row-index fits l.invariant.made ∷ [] =
    c.in_ok-push.ensures ∙ ap (λ (s : Address). l.starts ++ s ∷ []) start in
    let rests =
    c.in_ok-push-2.ensures
    ∙ ap (λ (n : Network). l.rests ++ record { around = c.last_covering-found.result.upto; length = n.length } ∷ []) (sym network) in
    let many : c.len.result ≡ length l.rests = omega (arith, c.len.ensures) in
    let around =
    last_is l.starts l.rests l.invariant.are all l.row-index fits l.invariant.made c.start_of-start.result l.rests c.len.result
    c.last_covering-found.result.upto start refl many c.last_covering-found.ensures.last in
    record {
      made = ap₂ rows_of starts rests
          ∙ next_made l.starts l.rests l.invariant.are all l.row-index fits l.invariant.made (in_order_place rows l.row-index here)
          c.last_covering-found.result.upto;
      are =
          subst (λ ss. AreRows ss c.push-in-loop-row.new.self) (sym starts)
          (subst (AreRows (l.starts ++ this_start l.starts l.rests l.invariant.are all l.row-index fits l.invariant.made ∷ [])) (sym rests)
          (next_are l.starts l.rests l.invariant.are all l.row-index fits l.invariant.made (still_in_order rows c.requires.order)
          (let few = c.requires.few in omega arith) c.last_covering-found.result.upto around));
    }
