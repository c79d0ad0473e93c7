-- `push` makes a node of the first room that is left. Assumes `Logic`.
use Rattle.osgi_links.proofs.Walk.{◌≡◌, ℕ, ◌+◌, ◌*◌, ◌-◌, ◌<◌, ◌^◌, List, [], ◌∷◌, length, refl, sym, ap, ◌∙◌, lit<, w64, arith, proved, after, never, snd∗, ftrue, flft, froom, named, Val, vunit, fact, tables, ‵, raw, ◌⊛◌, at_ret, ◌$◌, ◌∵◌, !, qed, done, move, keep, split, join, fsplit, fsplit3, fjoin, feq_i, rewrite, suffices, frame, group, whole, sub, look_in, enter, of_opd, lit, unit_lit, bin, load, stop, fld, assigns_last, first, blocks, exec, returns, alloc_all, pass_all, free_all, look_at, get, through, sets, env, usize, yes, shows, cell_at, full_share, uint_vals, uint_Tells, owns, Ptr, block_ptr, in_a_block, mut_vals, mut_Tells, plain, types_at, nothing, opens, closes, heard, peeks, Stays, walk_of, says, stay_dropped, Goes-dropped, stay_ref, Goes-ref, ends_at}
use denote.RawPtr.{null_ptr}
use types.Logic.{sem}
use Prim.Native.Nat.{suc}
use Rattle.std.proofs.Common.{◌++◌, length-append}
use types.Run.{init}
use types.Part.{agg}
use types.Run.{and_then, no_more}
use denote.Builtin.{u64}
use Rattle.osgi_links.specs.computed.Blocks.{block_type}
use Rattle.osgi_links.specs.computed.Chain.{fresh_link}
use Rattle.osgi_links.specs.computed.Ownership.{nodes_at, nodes_of, nodes_own}
use Rattle.osgi_links.proofs.Memory.{node_ty, push_link, room_link}
use Rattle.osgi_links.specs.contracts.nodes.Nodes.push as f
use Rattle.osgi_links.proofs.nodes.Nodes.push.Statement.{statement}
use Rattle.osgi_links.proofs.nodes.Nodes.push.Code as code
use Rattle.osgi_links.specs.contracts.nodes.Nodes.{the_row as R}
use Rattle.osgi_links.proofs.nodes.Nodes.TheLaws.{lowers}

abbrev stayed : Stays f.ended.signature.params f.ended.kept
stayed = (stay_ref (0 ∷ []) tt (plain (λ _. R)), (stay_dropped _ yes, (stay_dropped _ yes, (stay_dropped _ yes, (stay_dropped _ yes, tt)))))

pub push_spec : {M : Type 1} → statement M
push_spec 𝓤 𝓛 𝓜 𝓡 wired =
    let c = f.clauses 𝓛 𝓜.mem 𝓡.returns in let W = walk_of 𝓛 f.ended stayed c in let 𝓣 = tables 𝓤 𝓛.H 𝓜 𝓡 𝓡.env in
    let word = Goes-dropped 𝓛 1 (plain (λ _. usize)) yes (λ κs x w. refl) in let byte8 = Goes-dropped 𝓛 1 (plain (λ _. u64)) yes (λ κs x w. refl) in
    proved 𝓛 f.ended stayed c 𝓜 𝓡 (Goes-ref 𝓛 1 0 tt (plain (λ _. R)), (word, (word, (word, (byte8, tt)))))
    f.Key.name code.function (code.unfolded 𝓤 𝓛.H 𝓜 𝓡 wired)
    (λ κs. (mut_vals, (uint_vals w64, (uint_vals w64, (uint_vals w64, (uint_vals w64, tt))))))
    (λ κs. (mut_Tells (named 0) κs.0 R, (uint_Tells w64, (uint_Tells w64, (uint_Tells w64, (uint_Tells w64, tt))))))
    (λ κs qs bounds a _ are.
    let rb = a.0.ref_ptr.0 in let ro = a.0.ref_ptr.1 in let h = a.0.now in let ls = h.links in
    let at = a.1.0 in let prev = a.1.1.0 in let next = a.1.1.1.0 in let value = a.1.1.1.1.0 in
    let y : W.Ghost = ((κs, qs, bounds, a, (mut_vals a.0, (uint_vals w64 at, (uint_vals w64 prev, (uint_vals w64 next, (uint_vals w64 value, tt)))))), tt) in
    qed 𝓛 (((‵ (flft κs.0 qs.0) ⊛ ‵ ftrue) ⊛ ‵ (owns (types_at f.ended.signature.params κs) a y.0.4))
    ∷ (raw (fact 𝓤 (at ≡ length ls)) ⊛ raw (fact 𝓤 (at < h.room)) ⊛ raw (fact 𝓤 (prev < h.room)) ⊛ raw (fact 𝓤 (next < h.room))) ∷ []) ∵
    move ! (1 ∷ []) $ split ! $ heard ! (at ≡ length ls) (λ at_is. split ! $ heard ! (at < h.room) (λ at_in. split ! $ heard ! (prev < h.room) (λ p_in. heard ! (next < h.room) (λ n_in.
    let fits_at : at < 2 ^ 64 = are.1.0.1 in let fits_prev : prev < 2 ^ 64 = are.1.1.0.1 in let fits_next : next < 2 ^ 64 = are.1.1.1.0.1 in let fits_value : value < 2 ^ 64 = are.1.1.1.1.0.1 in
    let scaled : at * 48 < 2 ^ 64 = omega (arith, at_in, h.fits.1) in let scaled_p : prev * 48 < 2 ^ 64 = omega (arith, p_in, h.fits.1) in let scaled_n : next * 48 < 2 ^ 64 = omega (arith, n_in, h.fits.1) in
    let left : ℕ = h.room - length ls - 1 in let some_left : h.room - length ls ≡ suc left = omega (arith, at_in, at_is) in
    let link = fresh_link prev next value in
    let longer : length (ls ++ link ∷ []) ≡ length ls + 1 = length-append ls (link ∷ []) in
    split ! $ split ! $ move ! (2 ∷ []) $ fsplit ! $ keep ! (0 ∷ 2 ∷ []) $
    enter ! _ _ _ _ _ $ alloc_all ! (λ l. pass_all ! refl ((tt, tt), ((tt, record { fits = fits_at }), ((tt, record { fits = fits_prev }), ((tt, record { fits = fits_next }), ((tt, record { fits = fits_value }), tt))))) $
    let En = env code.Mir.locals l in
    fsplit3 ! $ move ! (1 ∷ 2 ∷ 3 ∷ []) $ opens ! tt R rb ro (λ us.
    move ! (1 ∷ []) $ peeks ! R _ (shows 𝓛 R) h us (λ is. fsplit ! $ move ! (1 ∷ []) $
    in_a_block ! h.start (λ q. nodes_own q ls h.room) (snd∗ 𝓤 (sem 𝓛 (nodes_at null_ptr (nodes_of null_ptr 0 ls))) (never 𝓤)) (λ b o e. fsplit ! $
    let start = block_ptr b o in let word = lowers.val_is h us is ∙ ap (λ (q : Ptr). lowers.lowered (record h { start = q }) ∷ []) e in
    let Cell = λ (ws : List Val). ‵ (cell_at full_share R.mir ws rb ro) in
    rewrite ! 3 Cell word refl $ move ! (1 ∷ []) $
    rewrite ! 0 (λ (k : ℕ). ‵ (froom (block_type k) b (length ls * 48 + o))) some_left refl $ room_link ! b (length ls * 48 + o) left $
    rewrite ! 0 (λ (k : ℕ). ‵ (froom node_ty b (k * 48 + o))) (sym at_is) refl $
    -- [the node's room; the rest's; the nodes; what the fields own; the struct's cell; the open borrow, in three entries]
    first ! $ blocks ! $
    sets ! (of_opd ! (load ! (through ! refl (fld ! refl (stop !))) (look_in ! 4 (sub ! 0 refl (whole !))))) refl (tt, tt) $
    sets ! (bin ! (get ! refl) (lit ! tt) (record { fits = scaled })) refl (tt, record { fits = scaled }) $
    sets ! (bin ! (get ! refl) (get ! refl) tt) refl (tt, tt) $
    sets ! (of_opd ! (load ! (through ! refl (fld ! refl (stop !))) (look_in ! 4 (sub ! 0 refl (whole !))))) refl (tt, tt) $
    sets ! (bin ! (get ! refl) (lit ! tt) (record { fits = scaled_p })) refl (tt, record { fits = scaled_p }) $
    sets ! (bin ! (get ! refl) (get ! refl) tt) refl (tt, tt) $
    sets ! (of_opd ! (load ! (through ! refl (fld ! refl (stop !))) (look_in ! 4 (sub ! 0 refl (whole !))))) refl (tt, tt) $
    sets ! (bin ! (get ! refl) (lit ! tt) (record { fits = scaled_n })) refl (tt, record { fits = scaled_n }) $
    sets ! (bin ! (get ! refl) (get ! refl) tt) refl (tt, tt) $
    sets ! (agg ! (and_then ! (get ! refl) (and_then ! (get ! refl) (and_then ! (get ! refl) (and_then ! (lit ! tt) (and_then ! (lit ! tt) (and_then ! (get ! refl) (no_more !)))))))) refl
    (tt, (tt, (tt, (record { fits = fits_at }, (record { fits = lit< tt }, (record { fits = lit< tt }, (record { fits = fits_value }, tt))))))) $
    assigns_last ! (of_opd ! (get ! refl)) (through ! refl (stop !)) (init ! 0 refl
    (tt, (tt, (tt, (record { fits = fits_at }, (record { fits = lit< tt }, (record { fits = lit< tt }, (record { fits = fits_value }, tt)))))))) $
    exec ! 𝓣.C 𝓣.Λ En (after 1 code.function.body) (at_ret En (W.post y)) $
    sets ! (of_opd ! (unit_lit !)) refl (tt, tt) $
    move ! (0 ∷ 2 ∷ []) $ push_link ! b o ls at link at_is (record { number = fits_at; under = lit< tt; row = lit< tt; value = fits_value }) $
    let ls₁ = ls ++ link ∷ [] in
    rewrite ! 1 (λ (s : ℕ × ℕ). ‵ (froom (block_type s.0) b s.1)) (λ i. ((let r : left ≡ h.room - length ls₁ = omega (arith, longer) in r) i, (let r : length ls * 48 + o + 48 ≡ length ls₁ * 48 + o = omega (arith, longer) in r) i)) refl $ fjoin ! $
    rewrite ! 0 (λ (q : Ptr). ‵ (nodes_own q ls₁ h.room)) (sym e) refl $ rewrite ! 2 Cell (sym word) refl $
    let new = record h { links = ls₁; fits = (omega (arith, longer, at_in, at_is), h.fits.1) } in
    move ! (1 ∷ []) $ fjoin ! $ move ! (1 ∷ []) $ closes ! tt R new us rb ro $
    returns ! (look_at ! 0 refl) $ free_all ! refl $ move ! (3 ∷ []) $
    suffices ! _ (ends_at 𝓛 f.ended stayed c y vunit tt (new, (tt, (tt, (tt, (tt, tt))))) (tt, (tt, (tt, (tt, (tt, tt)))))) $
    says ! (refl, refl, refl) $
    group ! 3 $ nothing ! $ nothing ! $ join ! $ nothing ! $ join ! $ nothing ! $ join ! $ nothing ! $ join ! $ move ! (1 ∷ 0 ∷ []) $ join ! $
    nothing ! $ move ! (2 ∷ 0 ∷ []) $ join ! $ frame ! $ frame ! $ feq_i ! _ (vunit ∷ []) _ refl $ done !)))))))))
