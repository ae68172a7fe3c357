-- The memory of the map is borrowed for the call, and is the caller's again after it.
use Rattle.art_c.proofs.Steps.{◌≡◌, ℕ, [], ◌∷◌, ◌++◌, refl, w32, MutBor, proved, full_share, id⊢, sep, Lft, flft, flent, named, vptr, fact, tables, WpFn, sem, Body, ‵, raw, ◌⊛◌, some, later, prop, ◌$◌, ◌∵◌, !, qed, done, move, drop, use1, use2, use3, split, join, fsplit, pick, await, regoal, suffices, frame, group, show, enter, of_opd, addr, stop, no_more, and_then, returns, alloc_all, pass_all, free_all, look_at, get, through, sets, lands_as, env, lft_new, lft_end, u32, yes, Is, shows, uint_Lawful, owns, Ptr, RawPtr, block_ptr, lies_at, in_a_block, rawptr_vals, rawptr_Tells, MutRef, part_at, mem, lends_ref, ref_back, plain, nothing, heard, peeks, calls_at, lasts, alive, triple_of, Stays, walk_of, says, stay_dropped, Goes-dropped, ends_at, framed}
use Rattle.std.specs.Prelude.{None}
use Rattle.string_map.specs.Calls.{code_of}
use Rattle.string_map.specs.contracts.building.StringMapBuilder.{the_row as R}
use Rattle.string_map.specs.contracts.building.free as g
use Rattle.string_map.proofs.building.free.Met.{met}
use Rattle.art_c.specs.contracts.vokujin_builder_free as f
use Rattle.art_c.proofs.vokujin_builder_free.Statement.{statement}
use Rattle.art_c.proofs.vokujin_builder_free.Code as code

abbrev stayed : Stays f.ended.signature.params f.ended.kept
stayed = (stay_dropped _ yes, tt)

pub vokujin_builder_free_spec : {M : Type 1} → statement M
vokujin_builder_free_spec 𝓤 𝓛 𝓜 𝓡 wired =
    let c = f.clauses 𝓛 𝓜.mem 𝓡.returns in let W = walk_of 𝓛 f.ended stayed c in let 𝓣 = tables 𝓤 𝓛.H 𝓜 𝓡 𝓡.env in
    proved 𝓛 f.ended stayed c 𝓜 𝓡 (Goes-dropped 𝓛 0 (plain (λ _. RawPtr)) yes (λ κs x w. refl), tt)
    f.Key.name code.function (code.unfolded 𝓤 𝓛.H 𝓜 𝓡 wired)
    (λ κs. (rawptr_vals, tt)) (λ κs. (rawptr_Tells, tt)) (λ κs qs bounds a m are.
    let vs : Unit {0} = tt in let T = alive 𝓛 f.signature κs qs in let Others = owns ([]) a.1 vs in
    let y : Ptr → W.Ghost = λ p. ((κs, qs, bounds, (p, a.1), (rawptr_vals p, vs)), m) in
    qed 𝓛 ((raw T ⊛ (‵ (RawPtr.own_val a.0 (rawptr_vals a.0)) ⊛ ‵ Others)) ∷ ‵ (lies_at R full_share a.0 m) ∷ []) ∵
    split ! $ move ! (1 ∷ []) $ split ! $ drop ! $ move ! (2 ∷ []) $
    in_a_block ! a.0 (λ p. lies_at R full_share p m) (id⊢ 𝓤 _) (λ b o e.
    regoal ! (λ p. prop (WpFn 𝓤 𝓛.H 𝓣.C 𝓣.Λ code.function (rawptr_vals p ++ []) (W.post (y p)))) e refl $
    -- [the map's memory; what the others own; their tokens; the locals]
    enter ! _ _ _ _ _ $ alloc_all ! (λ l. pass_all ! refl ((tt, tt), tt) $
    sets ! (of_opd ! (get ! refl)) refl (tt, tt) $ sets ! (addr ! (through ! refl (stop !))) refl (tt, tt) $
    lft_new ! tt (λ α. let κ : Lft = α ∷ [] in move ! (1 ∷ 0 ∷ []) $
    let lent : ℕ → MutBor _ = λ γ. record { ref_ptr = (b, o); ghost_name = γ; now = m } in
    use1 𝓛 (later (some (λ (γ : ℕ). ‵ ((MutRef (named 0) κ R).own_val (lent γ) (vptr b o ∷ [])) ⊛ ‵ (flent κ (Body (mem R) b o γ)))))
    (lends_ref 𝓛 R (named 0) κ m b o) $ await ! tt $ pick ! (λ γ. split ! $ let s = lent γ in
    let G = triple_of 𝓛 g.signature (g.spec 𝓛 𝓜.mem 𝓡.returns) in
    let z : G.Ghost = (((κ, κs), (full_share, qs), tt, (s, a.1), (vptr b o ∷ [], vs)), tt) in
    move ! (0 ∷ 3 ∷ []) $ join ! $ move ! (2 ∷ 3 ∷ 0 ∷ []) $ join ! $ join ! $ nothing ! $ move ! (1 ∷ 0 ∷ []) $ use2 𝓛 (raw (G.pre z)) (id⊢ 𝓤 _) $
    calls_at ! (framed 𝓤 𝓛.H 𝓜 (tables 𝓤 𝓛.H 𝓜 𝓡 𝓡.env)) G (met 𝓤 𝓛 𝓜 𝓡 (code.calls-string_map::building::free 𝓡.env wired)) z
    (and_then ! (get ! refl) (no_more !)) (λ v.
    use1 𝓛 (later (some (λ (r : ℕ). ((‵ (flft κ full_share) ⊛ raw T) ⊛ ‵ (u32.own_val r (v ∷ []))) ⊛
    some (λ (ws : _). ‵ (lasts g.ended z.0.0 z.0.3 ws) ⊛ raw (fact 𝓤 ((ws.0 ≡ None) × (r ≡ code_of m))))))) (id⊢ 𝓤 _) $
    await ! tt $ pick ! (λ r. split ! $ split ! $ split ! $ lft_end ! tt $
    move ! (3 ∷ []) $ pick ! (λ ws. split ! $ fsplit ! $ fsplit ! $
    move ! (3 ∷ []) $ heard ! _ (λ told.
    -- [the map's last value; its borrow; the others' last values; α is over; the tokens; the result; the lender's part]
    move ! (3 ∷ 6 ∷ 0 ∷ []) $ use3 𝓛 (later (‵ (part_at R full_share ws.0 b o))) (ref_back 𝓛 R κ γ ws.0 b o) $ await ! tt $
    move ! (1 ∷ []) $ drop ! $ move ! (3 ∷ []) $
    -- [the result; the map's memory; the others' last values; the tokens]
    peeks ! u32 (Is u32) (shows 𝓛 u32) r (v ∷ []) (λ is. lands_as ! refl refl ((uint_Lawful 𝓛 w32).typed r _ is).0 $
    returns ! (look_at ! 0 refl) $ free_all ! refl $
    suffices ! _ (ends_at 𝓛 f.ended stayed c (y (block_ptr b o)) v r (tt, ws.1) (tt, tt)) $
    nothing ! $ move ! (0 ∷ 3 ∷ []) $ join ! $ move ! (3 ∷ 0 ∷ 1 ∷ []) $ group ! 3 $ frame ! $
    show ! (λ (w : R.Denot). sep 𝓤 (sem 𝓛 (lies_at R full_share (block_ptr b o) w)) (fact 𝓤 ((w ≡ None) × (r ≡ code_of m)))) ws.0 $ says ! told $ done !))))))))))
