-- The words of the kit that walks share, in one place. Assumes nothing of its own.
pub use mathlib.Core.Path.{◌≡◌, refl, sym, ap, subst}
pub use Prim.Native.Nat.{ℕ, ◌<◌, ◌^◌}
pub use mathlib.Core.List.{[], ◌∷◌, List}
pub use mathlib.Core.Option.{none, some}
pub use lib.IntN.{ℤ}
pub use lib.ListN.{length}
pub use seplogic.Ra.Ura.{Ura}
pub use mir.Syntax.{Sym, Callee as Name, Lifetime, Ty, Fn, ty_unit, ty_bool, ty_int, ty_ref, ty_struct, tcons, tnil, imm, named, erased, w8, w64}
pub use mir.Val.{WT, has_ty, Val, vstruct, vcons, vnil, vint, vbool, vptr, vunit, of_z}
pub use base.Logic.{SProp, ent, id⊢, emp, via, fst∗, sep}
pub use base.Fml.{GName, Lft, Share, ftrue, flft, fobs, fbor, fres, fshr_bor}
pub use prog.Memory.{Memory}
pub use prog.Model.{Model}
pub use prog.Routine.{Routine, Env}
pub use prog.Wp.{Heap, Calls, Loops, WpFn, Closed}
pub use ghost.Atoms.{Atoms}
pub use types.Logic.{Logic, sem}
pub use contract.Monad.{Fun, fact_i}
pub use contract.Running.{Running, tables}
pub use types.Kit.{Item, group, ‵, raw, ◌⊛◌, ⋆, ◌$◌, ◌∵◌, !, qed, by, move, keep, drop, use1, split, join, fsplit, fsplit3, fjoin, fjoin3, feq_l, feq_i, suffices, frame, done}
pub use types.Run.{unit_lit, look, init, stop, hop, fld, from, load, addr, of_opd, and_then, no_more, assigns, first, returns, enter, alloc1, alloc0, params1, pass1, pass0, store, lit, returns_within, look_raw}
pub use types.Part.{agg, whole, sub, look_in}
pub use types.SemTy.{Body}
pub use sound.WpLaws.{FmC}
pub use denote.RattleType.{RattleType, owns}
pub use denote.Laws.{Is, shows}
pub use denote.Memory.{mem, part_at}
pub use denote.Plain.{uint_Makes, uint_vals, uint_Tells, bool_Makes, bool_Lawful}
pub use denote.Signed.{sint_Tells, sint_Makes, sint_Lawful, sint_vals}
pub use denote.Builtin.{u8, usize, i64, bool}
pub use denote.Ref.{Bor, MutBor, NamedLft, MutRef, shr_vals, mut_vals, mut_Tells, ShrRef, shr_Tells}
pub use denote.Slice.{slice_ty, shr_slice_vals, mut_slice_vals, MutSlice, ShrSlice, Room, finally, mut_slice_Tells, shr_slice_Tells, shr_slice_Lawful, shr_slice_copy}
pub use denote.Signature.{plain, named_lft, shr_slice_of}
pub use denote.Steps.{only, owned, nothing, looks, shuts, peeks}
pub use denote.Struct.Declared.{Declared, row, shape}
pub use denote.Struct.Field.{Field, u8-field, usize-field}
pub use denote.Struct.Rest.{all_own, own_shut}
pub use denote.Struct.Steps.{spelt}
pub use denote.Struct.Struct.{Struct}
pub use denote.Struct.Values.{Values, intos}
pub use denote.Triple.Statement.{Triple}
pub use denote.Triple.Bound.{Bound}
pub use denote.Triple.Entry.{on_entry}
pub use denote.Triple.Clauses.{Ended, Clauses, closing}
pub use denote.Triple.Spec.{Meets, triple_of}
pub use denote.Triple.Walked.{gave_ref, Goes-gave_ref, says, needs, Stays, stay_ref, stay_dropped, gave_slice, walk_of, AllGo, Goes-ref, Goes-dropped, Goes-gave_slice, Walks, ends_at, walked, stay_none, Goes-none, stay_none_ref, Goes-none_ref, stay_none_slice, Goes-none_slice}
pub use denote.Exit.{yes}
pub use lib.Dec.{T, lit<}
