-- The names that the proofs cite.
pub use Rattle.std.proofs.Common.{◌≡◌, ℕ, ◌≤◌, List, [], ◌∷◌, ◌++◌, refl, sym, ap, ◌∙◌, subst, w8, w32, w64, Bor, MutBor, arith}
pub use Rattle.std.proofs.raw_atomic.Walks.{proved}
pub use base.Fraction.{full_share}
pub use base.Logic.{id⊢, sep, fst∗}
pub use base.Fml.{Lft, ftrue, ffalse, fat, flft, fres, flent, froom, Incl-refl}
pub use borrow.Table.OneValue.{part_in, part_out}
pub use mir.Syntax.{named}
pub use mir.Val.{Val, vunit, vint, vptr}
pub use contract.Monad.{fact}
pub use contract.Running.{tables}
pub use prog.Wp.{WpFn}
pub use types.Logic.{sem}
pub use types.SemTy.{Body}
pub use types.Kit.{‵, raw, ◌⊛◌, some, later, prop, at_ret, ◌$◌, ◌∵◌, !, qed, done, move, keep, drop, use1, use2, use3, split, join, fsplit, fsplit3, fjoin, feq_i, feq_l, pick, await, rewrite, regoal, suffices, frame, group, show}
pub use types.Run.{enter, of_opd, lit, unit_lit, addr, store, init, load, look, stop, fld, hop, from, no_more, and_then, assigns, first, blocks, exec, returns}
pub use types.Part.{agg, whole, sub}
pub use types.ByLocal.{alloc_all, pass_all, free_all, look_at, look_in_at, get, get_in, through, sets, lands_as, env}
pub use types.Tokens.{lft_new, lft_end, lent_back}
pub use denote.Builtin.{u8, u32, usize, u64, bool, unit}
pub use denote.Exit.{yes, no}
pub use denote.Laws.{Is, shows}
pub use denote.Plain.{uint_Makes, uint_vals, uint_Tells, uint_Lawful, bool_vals, bool_Tells}
pub use denote.RattleType.{owns}
pub use denote.RawPtr.{Ptr, RawPtr, block_ptr, null_ptr, block_of, count_of, lies_at, room_at, in_a_block, rawptr_vals, rawptr_Tells}
pub use denote.Ref.{MutRef, ShrRef, mut_vals, mut_Tells}
pub use denote.Slice.{ShrSlice, MutSlice, shr_slice_vals, shr_slice_Tells, mut_slice_vals, mut_slice_Tells}
pub use denote.Memory.{part_at, mem, lone, shared_of}
pub use denote.Opens.{hide}
pub use denote.Struct.Lending.{lent_at}
pub use denote.Lend.{lends_ref, ref_back, lends_shr}
pub use denote.Signature.{plain, shr_slice_of}
pub use denote.Steps.{nothing, owned, heard, peeks, only}
pub use denote.Triple.Call.{calls_at}
pub use denote.Triple.Clauses.{lasts}
pub use denote.Triple.Entry.{on_entry, alive}
pub use denote.Triple.Spec.{triple_of}
pub use denote.Triple.Walked.{Stays, walk_of, says, stay_dropped, gave_ref, gave_slice, Goes-dropped, Goes-gave_ref, Goes-gave_slice, ends_at}
pub use denote.Triple.Table.{framed}
