-- The handle that `none` returned moves into the memory.
use Rattle.art_c.proofs.Steps.{◌≡◌, [], ◌∷◌, refl, proved, full_share, id⊢, ftrue, part_in, vunit, fact, tables, WpFn, ‵, raw, ◌⊛◌, some, later, prop, ◌$◌, ◌∵◌, !, qed, done, move, keep, drop, use1, use2, split, join, feq_i, pick, await, rewrite, regoal, suffices, group, enter, of_opd, unit_lit, init, stop, no_more, assigns, returns, alloc_all, pass_all, free_all, look_at, get, through, sets, lands_as, yes, Is, shows, Ptr, RawPtr, block_ptr, lies_at, room_at, in_a_block, rawptr_vals, rawptr_Tells, part_at, plain, nothing, heard, peeks, calls_at, lasts, triple_of, Stays, walk_of, stay_dropped, Goes-dropped, ends_at, framed}
use Rattle.std.specs.Prelude.{None}
use Rattle.string_map.specs.contracts.frozen.FrozenMap.{the_row as R}
use Rattle.string_map.proofs.frozen.FrozenMap.TheLaws.{the_row_laws}
use Rattle.string_map.specs.contracts.frozen.none as g
use Rattle.string_map.proofs.frozen.none.Met.{met}
use Rattle.art_c.specs.contracts.vokujin_frozen_new as f
use Rattle.art_c.proofs.vokujin_frozen_new.Statement.{statement}
use Rattle.art_c.proofs.vokujin_frozen_new.Code as code

abbrev stayed : Stays f.ended.signature.params f.ended.kept
stayed = (stay_dropped _ yes, tt)

pub vokujin_frozen_new_spec : {M : Type 1} → statement M
vokujin_frozen_new_spec 𝓤 𝓛 𝓜 𝓡 wired =
    let c = f.clauses 𝓛 𝓜.mem 𝓡.returns in let W = walk_of 𝓛 f.ended stayed c in let 𝓣 = tables 𝓤 𝓛.H 𝓜 𝓡 𝓡.env in
    proved 𝓛 f.ended stayed c 𝓜 𝓡 (Goes-dropped 𝓛 0 (plain (λ _. RawPtr)) yes (λ κs x w. refl), tt)
    f.Key.name code.function (code.unfolded 𝓤 𝓛.H 𝓜 𝓡 wired)
    (λ κs. (rawptr_vals, tt)) (λ κs. (rawptr_Tells, tt)) (λ κs qs bounds a m are.
    let y : Ptr → W.Ghost = λ p. ((κs, qs, bounds, (p, tt), (rawptr_vals p, tt)), m) in
    qed 𝓛 ((‵ ftrue ⊛ ‵ (RawPtr.own_val a.0 (rawptr_vals a.0)) ⊛ ‵ ftrue) ∷ ‵ (room_at R a.0) ∷ []) ∵
    keep ! (1 ∷ []) $
    in_a_block ! a.0 (λ p. room_at R p) (id⊢ 𝓤 _) (λ b o e.
    regoal ! (λ p. prop (WpFn 𝓤 𝓛.H 𝓣.C 𝓣.Λ code.function (rawptr_vals p) (W.post (y p)))) e refl $
    -- [the room; the locals]
    enter ! _ _ _ _ _ $ alloc_all ! (λ l. pass_all ! refl ((tt, tt), tt) $
    let G = triple_of 𝓛 g.signature (g.spec 𝓛 𝓜.mem 𝓡.returns) in
    let z : G.Ghost = ((tt, tt, tt, tt, tt), tt) in
    nothing ! $ nothing ! $ join ! $ nothing ! $ move ! (1 ∷ 0 ∷ []) $ use2 𝓛 (raw (G.pre z)) (id⊢ 𝓤 _) $
    calls_at ! (framed 𝓤 𝓛.H 𝓜 (tables 𝓤 𝓛.H 𝓜 𝓡 𝓡.env)) G (met 𝓤 𝓛 𝓜 𝓡 (code.calls-string_map::frozen::none 𝓡.env wired)) z
    (no_more !) (λ v.
    use1 𝓛 (later (some (λ (r : R.Denot). (‵ ftrue ⊛ ‵ (R.own_val r (v ∷ []))) ⊛
    some (λ (ws : _). ‵ (lasts g.ended z.0.0 z.0.3 ws) ⊛ raw (fact 𝓤 (r ≡ None)))))) (id⊢ 𝓤 _) $
    await ! tt $ pick ! (λ r. split ! $ split ! $ drop ! $ move ! (1 ∷ []) $ pick ! (λ ws. split ! $ drop ! $ heard ! _ (λ is_none.
    peeks ! R (Is R) (shows 𝓛 R) r (v ∷ []) (λ is. let t = ((the_row_laws.lawful 𝓛).typed r (v ∷ []) is).0 in
    lands_as ! refl refl t $
    sets ! (of_opd ! (get ! refl)) refl (tt, tt) $ sets ! (of_opd ! (get ! refl)) refl t $
    assigns ! (of_opd ! (get ! refl)) (through ! refl (stop !)) (init ! 1 refl t) $
    sets ! (of_opd ! (unit_lit !)) refl (tt, tt) $
    returns ! (look_at ! 0 refl) $ free_all ! refl $
    move ! (1 ∷ 0 ∷ []) $ use2 𝓛 (‵ (part_at R full_share r b o)) (part_in 𝓛 R refl full_share r b o v) $
    rewrite ! 0 (λ (s : R.Denot). ‵ (lies_at R full_share (block_ptr b o) s)) is_none refl $
    suffices ! _ (ends_at 𝓛 f.ended stayed c (y (block_ptr b o)) vunit tt (tt, tt) (tt, tt)) $
    feq_i ! _ (vunit ∷ []) _ refl $ nothing ! $ nothing ! $ join ! $ nothing ! $ group ! 3 $ done !))))))))
