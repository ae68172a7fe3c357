-- The builder that `new` returned moves into the memory.
use Rattle.art_c.proofs.Steps.{◌≡◌, [], ◌∷◌, refl, proved, full_share, id⊢, ftrue, part_in, vunit, fact, tables, WpFn, ‵, raw, ◌⊛◌, some, later, prop, ◌$◌, ◌∵◌, !, qed, done, move, keep, drop, use1, use2, split, join, feq_i, pick, await, rewrite, regoal, suffices, group, enter, of_opd, unit_lit, init, stop, no_more, and_then, assigns, returns, alloc_all, pass_all, free_all, look_at, get, through, sets, lands_as, yes, Is, shows, Ptr, RawPtr, block_ptr, lies_at, room_at, in_a_block, rawptr_vals, rawptr_Tells, part_at, plain, nothing, heard, peeks, calls_at, lasts, triple_of, Stays, walk_of, stay_dropped, Goes-dropped, ends_at, framed}
use Rattle.std.specs.Prelude.{Some}
use Rattle.std.specs.contracts.alloc.Global.{the_row as Heap}
use Rattle.std.proofs.alloc.Global.TheLaws as heap
use Rattle.string_map.specs.contracts.building.StringMapBuilder.{the_row as R}
use Rattle.string_map.proofs.building.StringMapBuilder.TheLaws.{the_row_laws}
use Rattle.string_map.specs.contracts.building.new as g
use Rattle.string_map.proofs.building.new.Met.{met}
use Rattle.art_c.specs.contracts.vokujin_builder_new as f
use Rattle.art_c.proofs.vokujin_builder_new.Statement.{statement}
use Rattle.art_c.proofs.vokujin_builder_new.Code as code

abbrev stayed : Stays f.ended.signature.params f.ended.kept
stayed = (stay_dropped _ yes, (stay_dropped _ yes, tt))

pub vokujin_builder_new_spec : {M : Type 1} → statement M
vokujin_builder_new_spec 𝓤 𝓛 𝓜 𝓡 wired =
    let c = f.clauses 𝓛 𝓜.mem 𝓡.returns in let W = walk_of 𝓛 f.ended stayed c in let 𝓣 = tables 𝓤 𝓛.H 𝓜 𝓡 𝓡.env in
    proved 𝓛 f.ended stayed c 𝓜 𝓡 (Goes-dropped 𝓛 0 (plain (λ _. Heap)) yes (λ κs x w. refl), (Goes-dropped 𝓛 0 (plain (λ _. RawPtr)) yes (λ κs x w. refl), tt))
    f.Key.name code.function (code.unfolded 𝓤 𝓛.H 𝓜 𝓡 wired)
    (λ κs. ((λ d. heap.lowered d ∷ []), (rawptr_vals, tt))) (λ κs. (heap.lowers.val_is, (rawptr_Tells, tt))) (λ κs qs bounds a m are.
    let d = a.0 in let w = heap.lowered d in
    let y : Ptr → W.Ghost = λ p. ((κs, qs, bounds, (d, (p, tt)), (w ∷ [], (rawptr_vals p, tt))), m) in
    qed 𝓛 ((‵ ftrue ⊛ ‵ (Heap.own_val d (w ∷ [])) ⊛ ‵ (RawPtr.own_val a.1.0 (rawptr_vals a.1.0)) ⊛ ‵ ftrue) ∷ ‵ (room_at R a.1.0) ∷ []) ∵
    split ! $ move ! (1 ∷ []) $ split ! $ keep ! (3 ∷ 0 ∷ []) $
    in_a_block ! a.1.0 (λ p. room_at R p) (id⊢ 𝓤 _) (λ b o e.
    regoal ! (λ p. prop (WpFn 𝓤 𝓛.H 𝓣.C 𝓣.Λ code.function (w ∷ rawptr_vals p) (W.post (y p)))) e refl $
    -- [the room; the allocator; the locals]
    enter ! _ _ _ _ _ $ alloc_all ! (λ l. pass_all ! refl (((heap.the_row_laws.lawful 𝓛).typed d (w ∷ []) are.0).0, ((tt, tt), tt)) $
    let G = triple_of 𝓛 g.signature (g.spec 𝓛 𝓜.mem 𝓡.returns) in
    let z : G.Ghost = ((tt, tt, tt, (d, tt), (w ∷ [], tt)), tt) in
    move ! (1 ∷ 0 ∷ []) $ nothing ! $ move ! (1 ∷ 0 ∷ []) $ join ! $ nothing ! $ join ! $ nothing ! $ move ! (1 ∷ 0 ∷ []) $ use2 𝓛 (raw (G.pre z)) (id⊢ 𝓤 _) $
    calls_at ! (framed 𝓤 𝓛.H 𝓜 (tables 𝓤 𝓛.H 𝓜 𝓡 𝓡.env)) G (met 𝓤 𝓛 𝓜 𝓡 (code.calls-string_map::building::new 𝓡.env wired)) z
    (and_then ! (get ! refl) (no_more !)) (λ v.
    use1 𝓛 (later (some (λ (r : R.Denot). (‵ ftrue ⊛ ‵ (R.own_val r (v ∷ []))) ⊛
    some (λ (ws : _). ‵ (lasts g.ended z.0.0 z.0.3 ws) ⊛ raw (fact 𝓤 (r ≡ Some [])))))) (id⊢ 𝓤 _) $
    await ! tt $ pick ! (λ r. split ! $ split ! $ drop ! $ move ! (1 ∷ []) $ pick ! (λ ws. split ! $ drop ! $ heard ! _ (λ is_new.
    peeks ! R (Is R) (shows 𝓛 R) r (v ∷ []) (λ is. let t = ((the_row_laws.lawful 𝓛).typed r (v ∷ []) is).0 in
    lands_as ! refl refl t $
    sets ! (of_opd ! (get ! refl)) refl (tt, tt) $ sets ! (of_opd ! (get ! refl)) refl t $
    assigns ! (of_opd ! (get ! refl)) (through ! refl (stop !)) (init ! 1 refl t) $
    sets ! (of_opd ! (unit_lit !)) refl (tt, tt) $
    returns ! (look_at ! 0 refl) $ free_all ! refl $
    move ! (1 ∷ 0 ∷ []) $ use2 𝓛 (‵ (part_at R full_share r b o)) (part_in 𝓛 R refl full_share r b o v) $
    rewrite ! 0 (λ (s : R.Denot). ‵ (lies_at R full_share (block_ptr b o) s)) is_new refl $
    suffices ! _ (ends_at 𝓛 f.ended stayed c (y (block_ptr b o)) vunit tt (tt, (tt, tt)) (tt, (tt, tt))) $
    feq_i ! _ (vunit ∷ []) _ refl $ nothing ! $ nothing ! $ join ! $ nothing ! $ join ! $ nothing ! $ group ! 3 $ done !))))))))
