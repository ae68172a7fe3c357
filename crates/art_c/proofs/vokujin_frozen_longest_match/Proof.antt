-- The caller has lent the map: the reference is made of the loan.
use Rattle.art_c.proofs.Steps.{ℕ, List, [], ◌∷◌, ◌++◌, refl, w32, Bor, proved, id⊢, fst∗, Lft, ffalse, flft, named, Val, vptr, fact, tables, WpFn, sem, ‵, raw, ◌⊛◌, some, later, prop, ◌$◌, ◌∵◌, !, qed, done, move, drop, use1, use2, split, join, fsplit, fjoin, feq_i, pick, await, regoal, suffices, frame, group, enter, of_opd, addr, stop, no_more, and_then, returns, alloc_all, pass_all, free_all, look_at, get, through, sets, lands_as, env, u8, u32, yes, Is, shows, uint_Lawful, owns, Ptr, RawPtr, block_ptr, null_ptr, block_of, count_of, in_a_block, rawptr_vals, rawptr_Tells, MutRef, mut_vals, mut_Tells, ShrSlice, shr_slice_vals, shr_slice_Tells, mem, shared_of, hide, lent_at, plain, shr_slice_of, nothing, heard, peeks, calls_at, lasts, alive, triple_of, Stays, walk_of, says, stay_dropped, gave_ref, Goes-dropped, Goes-gave_ref, ends_at, framed}
use Rattle.std.specs.Prelude.{◌≢◌}
use Rattle.std.specs.Option.{option_map}
use Rattle.art_keyed.specs.KeyedPairs.{strings_in_front}
use Rattle.art_model.specs.Pairs.{last_of}
use Rattle.string_map.specs.Calls.{Answers, no_memory}
use Rattle.string_map.specs.Shown.{pair_of}
use Rattle.string_map.specs.contracts.pairs.Pair.{the_row as PairRow}
use Rattle.string_map.specs.contracts.frozen.FrozenMap.{the_row as R}
use Rattle.string_map.specs.contracts.frozen.longest_match as g
use Rattle.string_map.proofs.frozen.longest_match.Met.{met}
use Rattle.art_c.specs.contracts.vokujin_frozen_longest_match as f
use Rattle.art_c.proofs.vokujin_frozen_longest_match.Statement.{statement}
use Rattle.art_c.proofs.vokujin_frozen_longest_match.Code as code

abbrev stayed : Stays f.ended.signature.params f.ended.kept
stayed = (stay_dropped _ yes, (stay_dropped _ yes, (gave_ref (1 ∷ []) tt (plain (λ _. PairRow)), tt)))

pub vokujin_frozen_longest_match_spec : {M : Type 1} → statement M
vokujin_frozen_longest_match_spec 𝓤 𝓛 𝓜 𝓡 wired =
    let c = f.clauses 𝓛 𝓜.mem 𝓡.returns in let W = walk_of 𝓛 f.ended stayed c in let 𝓣 = tables 𝓤 𝓛.H 𝓜 𝓡 𝓡.env in
    proved 𝓛 f.ended stayed c 𝓜 𝓡 (Goes-dropped 𝓛 2 (plain (λ _. RawPtr)) yes (λ κs x w. refl), (Goes-dropped 𝓛 2 (shr_slice_of (0 ∷ []) tt (plain (λ _. u8))) yes (λ κs x w. refl), (Goes-gave_ref 𝓛 2 1 tt (plain (λ _. PairRow)), tt)))
    f.Key.name code.function (code.unfolded 𝓤 𝓛.H 𝓜 𝓡 wired)
    (λ κs. (rawptr_vals, (shr_slice_vals, (mut_vals, tt)))) (λ κs. (rawptr_Tells, (shr_slice_Tells (named 0) κs.0 u8, (mut_Tells (named 1) κs.1.0 PairRow, tt)))) (λ κs qs bounds a m are.
    let vs : List Val × (List Val × (Unit {0})) = (shr_slice_vals a.1.0, (mut_vals a.1.1.0, tt)) in let T = alive 𝓛 f.signature κs qs in let Others = owns (ShrSlice (named 0) κs.0 u8 ∷ MutRef (named 1) κs.1.0 PairRow ∷ []) a.1 vs in
    let y : Ptr → W.Ghost = λ p. ((κs, qs, bounds, (p, a.1), (rawptr_vals p, vs)), m) in
    qed 𝓛 ((raw T ⊛ (‵ (RawPtr.own_val a.0 (rawptr_vals a.0)) ⊛ ‵ Others)) ∷ (‵ (lent_at R a.0 m.1 m.0.0) ⊛ ‵ (flft m.0.0 m.0.1)) ∷ []) ∵
    split ! $ move ! (1 ∷ []) $ split ! $ drop ! $ move ! (2 ∷ []) $ split ! $
    in_a_block ! a.0 (λ p. lent_at R p m.1 m.0.0) (fst∗ 𝓤 (sem 𝓛 ffalse) (sem 𝓛 (shared_of R m.1 (block_of null_ptr) (count_of null_ptr) m.0.0))) (λ b o e.
    regoal ! (λ p. prop (WpFn 𝓤 𝓛.H 𝓣.C 𝓣.Λ code.function (rawptr_vals p ++ (shr_slice_vals a.1.0 ++ (mut_vals a.1.1.0 ++ []))) (W.post (y p)))) e refl $
    -- [what the caller lent; the token of its lifetime; what the others own; their tokens; the locals]
    enter ! _ _ _ _ _ $ alloc_all ! (λ l. pass_all ! refl ((tt, tt), ((tt, (tt, (record { fits = are.1.0.0.1.0 }, tt))), ((tt, tt), tt))) $
    sets ! (of_opd ! (get ! refl)) refl (tt, tt) $ sets ! (addr ! (through ! refl (stop !))) refl (tt, tt) $
    sets ! (addr ! (through ! refl (stop !))) refl (tt, tt) $
    let κ : Lft = m.0.0 in
    let s : Bor _ = record { ref_ptr = (b, o); now = m.1 } in
    fsplit ! $ drop ! $ hide ! $ feq_i ! (List Val) (vptr b o ∷ []) (vptr b o ∷ []) refl $ fjoin ! $
    let G = triple_of 𝓛 g.signature (g.spec 𝓛 𝓜.mem 𝓡.returns) in
    let z : G.Ghost = (((κ, κs), (m.0.1, qs), tt, (s, a.1), (vptr b o ∷ [], vs)), tt) in
    move ! (0 ∷ 2 ∷ []) $ join ! $ move ! (1 ∷ 2 ∷ 0 ∷ []) $ join ! $ join ! $ nothing ! $ move ! (1 ∷ 0 ∷ []) $ use2 𝓛 (raw (G.pre z)) (id⊢ 𝓤 _) $
    calls_at ! (framed 𝓤 𝓛.H 𝓜 (tables 𝓤 𝓛.H 𝓜 𝓡 𝓡.env)) G (met 𝓤 𝓛 𝓜 𝓡 (code.calls-string_map::frozen::longest_match 𝓡.env wired)) z
    (and_then ! (get ! refl) (and_then ! (get ! refl) (and_then ! (get ! refl) (no_more !)))) (λ v.
    use1 𝓛 (later (some (λ (r : ℕ). ((‵ (flft κ m.0.1) ⊛ raw T) ⊛ ‵ (u32.own_val r (v ∷ []))) ⊛
    some (λ (ws : _). ‵ (lasts g.ended z.0.0 z.0.3 ws) ⊛ raw (fact 𝓤 (Answers m.1 (λ all. option_map pair_of (last_of (strings_in_front (λ text. text) a.1.0.now all))) r a.1.1.0.now ws.1.1.0 × (r ≢ no_memory))))))) (id⊢ 𝓤 _) $
    await ! tt $ pick ! (λ r. split ! $ split ! $ split ! $
    move ! (3 ∷ []) $ pick ! (λ ws. split ! $ fsplit ! $ drop ! $
    move ! (1 ∷ []) $ heard ! _ (λ told.
    -- [the others' last values; the token of κ; the tokens; the result]
    move ! (3 ∷ []) $
    -- [the result; the others' last values; the token of κ; the tokens]
    peeks ! u32 (Is u32) (shows 𝓛 u32) r (v ∷ []) (λ is. lands_as ! refl refl ((uint_Lawful 𝓛 w32).typed r _ is).0 $
    returns ! (look_at ! 0 refl) $ free_all ! refl $
    suffices ! _ (ends_at 𝓛 f.ended stayed c (y (block_ptr b o)) v r (tt, ws.1) (tt, (tt, (tt, tt)))) $
    nothing ! $ move ! (0 ∷ 2 ∷ []) $ join ! $ move ! (3 ∷ 0 ∷ 1 ∷ []) $ group ! 3 $ frame ! $
    says ! told $ done !))))))))
