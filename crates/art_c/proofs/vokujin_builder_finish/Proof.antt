-- The memory of the builder and that of the map are borrowed for the call, and are the caller's again after it.
use Rattle.art_c.proofs.Steps.{ℕ, [], ◌∷◌, ◌++◌, refl, w32, MutBor, proved, full_share, id⊢, sep, Lft, flft, flent, named, vptr, fact, tables, WpFn, sem, Body, ‵, raw, ◌⊛◌, some, later, prop, ◌$◌, ◌∵◌, !, qed, done, move, drop, use1, use2, use3, split, join, fsplit, pick, await, regoal, suffices, frame, group, show, enter, of_opd, addr, stop, no_more, and_then, returns, alloc_all, pass_all, free_all, look_at, get, through, sets, lands_as, lft_new, lft_end, u32, yes, Is, shows, uint_Lawful, owns, Ptr, RawPtr, block_ptr, lies_at, in_a_block, rawptr_vals, rawptr_Tells, MutRef, part_at, mem, lends_ref, ref_back, plain, nothing, heard, peeks, calls_at, lasts, alive, triple_of, Stays, walk_of, says, stay_dropped, Goes-dropped, ends_at, framed}
use Rattle.string_map.specs.Building.{Finishes}
use Rattle.string_map.specs.contracts.building.StringMapBuilder.{the_row as R}
use Rattle.string_map.specs.contracts.StringMap.{the_row as S}
use Rattle.string_map.specs.contracts.building.finish as g
use Rattle.string_map.proofs.building.finish.Met.{met}
use Rattle.art_c.specs.contracts.vokujin_builder_finish as f
use Rattle.art_c.proofs.vokujin_builder_finish.Statement.{statement}
use Rattle.art_c.proofs.vokujin_builder_finish.Code as code

abbrev stayed : Stays f.ended.signature.params f.ended.kept
stayed = (stay_dropped _ yes, (stay_dropped _ yes, tt))

pub vokujin_builder_finish_spec : {M : Type 1} → statement M
vokujin_builder_finish_spec 𝓤 𝓛 𝓜 𝓡 wired =
    let c = f.clauses 𝓛 𝓜.mem 𝓡.returns in let W = walk_of 𝓛 f.ended stayed c in let 𝓣 = tables 𝓤 𝓛.H 𝓜 𝓡 𝓡.env in
    proved 𝓛 f.ended stayed c 𝓜 𝓡 (Goes-dropped 𝓛 0 (plain (λ _. RawPtr)) yes (λ κs x w. refl), (Goes-dropped 𝓛 0 (plain (λ _. RawPtr)) yes (λ κs x w. refl), tt))
    f.Key.name code.function (code.unfolded 𝓤 𝓛.H 𝓜 𝓡 wired)
    (λ κs. (rawptr_vals, (rawptr_vals, tt))) (λ κs. (rawptr_Tells, (rawptr_Tells, tt))) (λ κs qs bounds a m are.
    let T = alive 𝓛 f.signature κs qs in let Pointers = owns (RawPtr ∷ RawPtr ∷ []) a (rawptr_vals a.0, (rawptr_vals a.1.0, tt)) in
    let y : Ptr → Ptr → W.Ghost = λ p t. ((κs, qs, bounds, (p, (t, tt)), (rawptr_vals p, (rawptr_vals t, tt))), m) in
    qed 𝓛 ((raw T ⊛ ‵ Pointers) ∷ (‵ (lies_at R full_share a.0 m.0) ⊛ ‵ (lies_at S full_share a.1.0 m.1)) ∷ []) ∵
    split ! $ move ! (1 ∷ []) $ drop ! $ move ! (1 ∷ []) $ split ! $
    -- [what lies at the first pointer; at the second; the tokens]
    in_a_block ! a.0 (λ p. lies_at R full_share p m.0) (id⊢ 𝓤 _) (λ b o e.
    regoal ! (λ p. prop (WpFn 𝓤 𝓛.H 𝓣.C 𝓣.Λ code.function (rawptr_vals p ++ (rawptr_vals a.1.0 ++ [])) (W.post (y p a.1.0)))) e refl $
    move ! (1 ∷ []) $
    in_a_block ! a.1.0 (λ p. lies_at S full_share p m.1) (id⊢ 𝓤 _) (λ b' o' e'.
    regoal ! (λ p. prop (WpFn 𝓤 𝓛.H 𝓣.C 𝓣.Λ code.function (vptr b o ∷ (rawptr_vals p ++ [])) (W.post (y (block_ptr b o) p)))) e' refl $
    move ! (1 ∷ []) $
    enter ! _ _ _ _ _ $ alloc_all ! (λ l. pass_all ! refl ((tt, tt), ((tt, tt), tt)) $
    sets ! (of_opd ! (get ! refl)) refl (tt, tt) $ sets ! (addr ! (through ! refl (stop !))) refl (tt, tt) $
    sets ! (of_opd ! (get ! refl)) refl (tt, tt) $ sets ! (addr ! (through ! refl (stop !))) refl (tt, tt) $
    lft_new ! tt (λ α. let κ : Lft = α ∷ [] in move ! (1 ∷ 0 ∷ []) $
    let lent : ℕ → MutBor _ = λ γ. record { ref_ptr = (b, o); ghost_name = γ; now = m.0 } in
    use1 𝓛 (later (some (λ (γ : ℕ). ‵ ((MutRef (named 0) κ R).own_val (lent γ) (vptr b o ∷ [])) ⊛ ‵ (flent κ (Body (mem R) b o γ)))))
    (lends_ref 𝓛 R (named 0) κ m.0 b o) $ await ! tt $ pick ! (λ γ. split ! $ let s = lent γ in
    -- [the first reference; what its lender keeps; the token of α; what lies at the second pointer; the tokens]
    lft_new ! tt (λ β. let κ' : Lft = β ∷ [] in move ! (4 ∷ []) $
    let lent' : ℕ → MutBor _ = λ γ. record { ref_ptr = (b', o'); ghost_name = γ; now = m.1 } in
    use1 𝓛 (later (some (λ (γ : ℕ). ‵ ((MutRef (named 1) κ' S).own_val (lent' γ) (vptr b' o' ∷ [])) ⊛ ‵ (flent κ' (Body (mem S) b' o' γ)))))
    (lends_ref 𝓛 S (named 1) κ' m.1 b' o') $ await ! tt $ pick ! (λ γ'. split ! $ let s' = lent' γ' in
    -- [the second reference; what its lender keeps; the token of β; the first reference; what its lender keeps; the token of α; the tokens]
    let G = triple_of 𝓛 g.signature (g.spec 𝓛 𝓜.mem 𝓡.returns) in
    let z : G.Ghost = (((κ, (κ', κs)), (full_share, (full_share, qs)), tt, (s, (s', tt)), (vptr b o ∷ [], (vptr b' o' ∷ [], tt))), tt) in
    nothing ! $ move ! (1 ∷ 0 ∷ []) $ join ! $ move ! (3 ∷ 0 ∷ []) $ join ! $
    move ! (2 ∷ 5 ∷ []) $ join ! $ move ! (4 ∷ 0 ∷ []) $ join ! $ join ! $ nothing ! $ move ! (1 ∷ 0 ∷ []) $ use2 𝓛 (raw (G.pre z)) (id⊢ 𝓤 _) $
    calls_at ! (framed 𝓤 𝓛.H 𝓜 (tables 𝓤 𝓛.H 𝓜 𝓡 𝓡.env)) G (met 𝓤 𝓛 𝓜 𝓡 (code.calls-string_map::building::finish 𝓡.env wired)) z
    (and_then ! (get ! refl) (and_then ! (get ! refl) (no_more !))) (λ v.
    use1 𝓛 (later (some (λ (r : ℕ). ((‵ (flft κ full_share) ⊛ (‵ (flft κ' full_share) ⊛ raw T)) ⊛ ‵ (u32.own_val r (v ∷ []))) ⊛
    some (λ (ws : _). ‵ (lasts g.ended z.0.0 z.0.3 ws) ⊛ raw (fact 𝓤 (Finishes m.0 m.1 r ws.0 ws.1.0)))))) (id⊢ 𝓤 _) $
    await ! tt $ pick ! (λ r. split ! $ split ! $ split ! $ lft_end ! tt $ move ! (1 ∷ []) $ split ! $ lft_end ! tt $
    -- [β is over; the tokens; α is over; the result; the rest; what the second lender keeps; what the first keeps]
    move ! (4 ∷ []) $ pick ! (λ ws. split ! $
    fsplit ! $ fsplit ! $ move ! (3 ∷ []) $ heard ! _ (λ told.
    -- [the first's last value; its borrow; the others' last values; β is over; the tokens; α is over; the result; the lenders' parts]
    move ! (5 ∷ 8 ∷ 0 ∷ []) $ use3 𝓛 (later (‵ (part_at R full_share ws.0 b o))) (ref_back 𝓛 R κ γ ws.0 b o) $ await ! tt $
    move ! (1 ∷ []) $ drop ! $
    -- [what lies at the first pointer; the others' last values; β is over; the tokens; the result; what the second lender keeps]
    move ! (1 ∷ []) $ fsplit ! $ fsplit ! $
    move ! (4 ∷ 7 ∷ 0 ∷ []) $ use3 𝓛 (later (‵ (part_at S full_share ws.1.0 b' o'))) (ref_back 𝓛 S κ' γ' ws.1.0 b' o') $ await ! tt $
    move ! (1 ∷ []) $ drop ! $ move ! (4 ∷ []) $
    -- [the result; what lies at the second pointer; nothing; what lies at the first; the tokens]
    peeks ! u32 (Is u32) (shows 𝓛 u32) r (v ∷ []) (λ is. lands_as ! refl refl ((uint_Lawful 𝓛 w32).typed r _ is).0 $
    returns ! (look_at ! 0 refl) $ free_all ! refl $
    suffices ! _ (ends_at 𝓛 f.ended stayed c (y (block_ptr b o) (block_ptr b' o')) v r (tt, (tt, tt)) (tt, (tt, tt))) $
    nothing ! $ move ! (0 ∷ 3 ∷ []) $ join ! $ nothing ! $ join ! $ move ! (4 ∷ 0 ∷ 1 ∷ []) $ group ! 3 $ frame ! $
    -- [what lies at the second pointer; at the first]
    show ! (λ (w : R.Denot × S.Denot). sep 𝓤 (sep 𝓤 (sem 𝓛 (lies_at R full_share (block_ptr b o) w.0)) (sem 𝓛 (lies_at S full_share (block_ptr b' o') w.1))) (fact 𝓤 (Finishes m.0 m.1 r w.0 w.1))) (ws.0, ws.1.0) $ says ! told $ move ! (1 ∷ 0 ∷ []) $ join ! $ done !)))))))))))))
