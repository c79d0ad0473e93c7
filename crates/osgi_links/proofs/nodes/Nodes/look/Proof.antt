-- `look` reads the node, and the number of the one that it leads to. Assumes `Logic`.
use Rattle.osgi_links.proofs.Walk.{◌+◌, ◌*◌, ◌<◌, ◌^◌, [], ◌∷◌, length, refl, w64, arith, proved, after, ftrue, flft, named, fact, tables, ‵, raw, ◌⊛◌, at_ret, ◌$◌, ◌∵◌, !, qed, done, move, keep, drop, use0, use1, split, join, fsplit, fjoin, suffices, agg, enter, of_opd, lit, bin, load, look, stop, fld, and_then, no_more, first, blocks, exec, returns, alloc_all, pass_all, free_all, look_at, get, through, sets, sets_last, env, usize, yes, uint_vals, uint_Tells, owns, RawPtr, block_ptr, in_a_block, plain, types_at, nothing, heard, Stays, walk_of, says, stay_dropped, Goes-dropped, ends_at}
use denote.Builtin.{u64, RefOf}
use denote.Memory.{hidden_shr}
use denote.Ref.{shr_vals, shr_Tells}
use Rattle.osgi_links.specs.declared.nodes.Node.{Node}
use Rattle.osgi_links.specs.declared.nodes.Shown.{Shown}
use Rattle.osgi_links.specs.contracts.nodes.Node.{the_row as Rn}
use Rattle.osgi_links.specs.computed.Chain.{link_at, next_at, shown_at}
use Rattle.osgi_links.specs.computed.Ownership.{node_of, nodes_lent, nodes_of}
use Rattle.osgi_links.proofs.Shared.{fields_shown, lent_laws, link_lent, long_in, long_out, null_lent, pointer_in, pointer_out, shown_made, shown_own, shown_val, shown, word_in, word_out}
use Rattle.osgi_links.specs.contracts.nodes.Nodes.look as f
use Rattle.osgi_links.proofs.nodes.Nodes.look.Statement.{statement}
use Rattle.osgi_links.proofs.nodes.Nodes.look.Code as code
use Rattle.osgi_links.specs.contracts.nodes.Nodes.{the_row as R}

abbrev stayed : Stays f.ended.signature.params f.ended.kept
stayed = (stay_dropped (RefOf (0 ∷ []) tt (plain (λ _. R)) (λ _. tt)) yes, (stay_dropped _ yes, tt))

pub look_spec : {M : Type 1} → statement M
look_spec {M = M} 𝓤 𝓛 𝓜 𝓡 wired =
    let c = f.clauses 𝓛 𝓜.mem 𝓡.returns in let W = walk_of 𝓛 f.ended stayed c in let 𝓣 = tables 𝓤 𝓛.H 𝓜 𝓡 𝓡.env in
    proved 𝓛 f.ended stayed c 𝓜 𝓡 (Goes-dropped 𝓛 1 (RefOf (0 ∷ []) tt (plain (λ _. R)) (λ _. tt)) yes (λ κs x w. refl), (Goes-dropped 𝓛 1 (plain (λ _. usize)) yes (λ κs x w. refl), tt))
    f.Key.name code.function (code.unfolded 𝓤 𝓛.H 𝓜 𝓡 wired)
    (λ κs. (shr_vals, (uint_vals w64, tt))) (λ κs. (shr_Tells (named 0) κs.0 R, (uint_Tells w64, tt)))
    (λ κs qs bounds a _ are.
    let κ = κs.0 in let rb = a.0.ref_ptr.0 in let ro = a.0.ref_ptr.1 in let h = a.0.now in let ls = h.links in let at = a.1.0 in let n = next_at ls at in
    let y : W.Ghost = ((κs, qs, bounds, a, (shr_vals a.0, (uint_vals w64 at, tt))), tt) in
    qed 𝓛 (((‵ (flft κ qs.0) ⊛ ‵ ftrue) ⊛ ‵ (owns (types_at f.ended.signature.params κs) a y.0.4)) ∷ (raw (fact 𝓤 (at < length ls)) ⊛ raw (fact 𝓤 (n < length ls))) ∷ []) ∵
    move ! (1 ∷ []) $ split ! $ heard ! (at < length ls) (λ at_in. heard ! (n < length ls) (λ n_in.
    let few : length ls * 48 < 2 ^ 63 = omega (arith, h.fits.0, h.fits.1) in
    let fits_at : at < 2 ^ 64 = are.1.0.1 in let scaled : at * 48 < 2 ^ 64 = omega (arith, at_in, few) in
    split ! $ split ! $ move ! (2 ∷ []) $ fsplit ! $ fsplit ! $ drop ! $
    use1 𝓛 (‵ (hidden_shr RawPtr κ h.start rb (ro + 0)) ⊛ ‵ (nodes_lent h.start ls κ)) (shown 𝓛 κ h rb ro) $ split ! $ move ! (1 ∷ []) $
    in_a_block ! h.start (λ q. nodes_lent q ls κ) (null_lent 𝓛 κ ls (omega (arith, at_in))) (λ b o e.
    let start = block_ptr b o in let x : Node = node_of start at (link_at ls at) in let z : Node = node_of start n (link_at ls n) in
    use1 𝓛 (‵ (nodes_lent start ls κ) ⊛ ‵ (nodes_lent start ls κ)) ((lent_laws start (nodes_of start 0 ls)).contraction M 𝓤 𝓛 κ) $ split ! $
    use1 𝓛 (‵ (hidden_shr Rn κ x b (at * 48 + o))) (link_lent 𝓛 κ b o ls at at_in) $
    use1 𝓛 (‵ (hidden_shr RawPtr κ x.next b (at * 48 + o + 8)) ⊛ ‵ (hidden_shr usize κ x.number b (at * 48 + o + 16)) ⊛ ‵ (hidden_shr usize κ x.under b (at * 48 + o + 24))
    ⊛ ‵ (hidden_shr usize κ x.row b (at * 48 + o + 32)) ⊛ ‵ (hidden_shr u64 κ x.value b (at * 48 + o + 40))) (fields_shown 𝓛 κ x b (at * 48 + o)) $
    split ! $ move ! (1 ∷ []) $ split ! $ move ! (1 ∷ []) $ split ! $ move ! (1 ∷ []) $ split ! $ move ! (5 ∷ []) $
    use1 𝓛 (‵ (hidden_shr Rn κ z b (n * 48 + o))) (link_lent 𝓛 κ b o ls n n_in) $
    use1 𝓛 (‵ (hidden_shr RawPtr κ z.next b (n * 48 + o + 8)) ⊛ ‵ (hidden_shr usize κ z.number b (n * 48 + o + 16)) ⊛ ‵ (hidden_shr usize κ z.under b (n * 48 + o + 24))
    ⊛ ‵ (hidden_shr usize κ z.row b (n * 48 + o + 32)) ⊛ ‵ (hidden_shr u64 κ z.value b (n * 48 + o + 40))) (fields_shown 𝓛 κ z b (n * 48 + o)) $
    split ! $ move ! (1 ∷ []) $ split ! $ move ! (1 ∷ []) $ split ! $ move ! (1 ∷ []) $ split ! $ keep ! (10 ∷ 12 ∷ 9 ∷ 3 ∷ 7 ∷ 5 ∷ 6 ∷ []) $
    -- [a `&` to the start; the token; a `&` to the link on, to the next node's number, and to the node's other fields]
    enter ! _ _ _ _ _ $ alloc_all ! (λ l. pass_all ! refl ((tt, tt), ((tt, record { fits = fits_at }), tt)) $ let En = env code.Mir.locals l in
    first ! $ blocks ! $
    pointer_in ! tt h.start b o e rb (ro + 0) (λ q₀. sets ! (of_opd ! (load ! (through ! refl (fld ! refl (stop !))) (look ! 0 refl))) refl (tt, tt) $ pointer_out ! tt h.start b o e rb (ro + 0) $
    sets ! (bin ! (get ! refl) (lit ! tt) (record { fits = scaled })) refl (tt, record { fits = scaled }) $
    sets ! (bin ! (get ! refl) (get ! refl) tt) refl (tt, tt) $
    move ! (1 ∷ 0 ∷ []) $ pointer_in ! tt x.next b (n * 48 + o) refl b (at * 48 + o + 8) (λ q₁. sets ! (of_opd ! (load ! (through ! refl (fld ! refl (stop !))) (look ! 0 refl))) refl (tt, tt) $ pointer_out ! tt x.next b (n * 48 + o) refl b (at * 48 + o + 8) $
    move ! (1 ∷ 0 ∷ []) $ word_in ! tt z.number b (n * 48 + o + 16) (λ q₂ fn. sets ! (of_opd ! (load ! (through ! refl (fld ! refl (stop !))) (look ! 0 refl))) refl (tt, record { fits = fn }) $ word_out ! tt z.number b (n * 48 + o + 16) fn $
    move ! (1 ∷ 0 ∷ []) $ word_in ! tt x.under b (at * 48 + o + 24) (λ q₃ fu. sets ! (of_opd ! (load ! (through ! refl (fld ! refl (stop !))) (look ! 0 refl))) refl (tt, record { fits = fu }) $ word_out ! tt x.under b (at * 48 + o + 24) fu $
    move ! (1 ∷ 0 ∷ []) $ word_in ! tt x.row b (at * 48 + o + 32) (λ q₄ fr. sets ! (of_opd ! (load ! (through ! refl (fld ! refl (stop !))) (look ! 0 refl))) refl (tt, record { fits = fr }) $ word_out ! tt x.row b (at * 48 + o + 32) fr $
    move ! (1 ∷ 0 ∷ []) $ long_in ! tt x.value b (at * 48 + o + 40) (λ q₅ fv. sets ! (of_opd ! (load ! (through ! refl (fld ! refl (stop !))) (look ! 0 refl))) refl (tt, record { fits = fv }) $ long_out ! tt x.value b (at * 48 + o + 40) fv $
    sets_last ! (agg ! (and_then ! (get ! refl) (and_then ! (get ! refl) (and_then ! (get ! refl) (and_then ! (get ! refl) (no_more !)))))) refl
    (tt, (record { fits = fn }, (record { fits = fu }, (record { fits = fr }, (record { fits = fv }, tt))))) $
    exec ! 𝓣.C 𝓣.Λ En (after 1 code.function.body) (at_ret En (W.post y)) $
    sets ! (of_opd ! (get ! refl)) refl (tt, (record { fits = fn }, (record { fits = fu }, (record { fits = fr }, (record { fits = fv }, tt))))) $
    returns ! (look_at ! 0 refl) $ free_all ! refl $ keep ! (0 ∷ []) $
    let r : Shown = shown_at ls at in
    suffices ! _ (ends_at 𝓛 f.ended stayed c y (shown_val r) r (tt, (tt, tt)) (tt, (tt, tt))) $ says ! refl $
    use0 𝓛 (‵ (shown_own r (shown_val r ∷ []))) (shown_made 𝓛 r fn fu fr fv) $ nothing ! $ nothing ! $ fjoin ! $ nothing ! $ fjoin ! $ join ! $
    nothing ! $ move ! (2 ∷ 0 ∷ []) $ join ! $ join ! $ done !)))))))))))
