-- `set_linked` writes to the node's neighbours, and then to the node. Assumes `Logic`.
use Rattle.osgi_links.proofs.Walk.{◌≡◌, ℕ, ◌+◌, ◌*◌, ◌-◌, ◌<◌, ◌^◌, Bool, true, false, not, List, [], ◌∷◌, length, set, refl, sym, ap, ◌∙◌, w64, arith, proved, after, head, inside, never, snd∗, ftrue, flft, froom, named, Val, vunit, fact, tables, ‵, raw, ◌⊛◌, at_ret, ◌$◌, ◌∵◌, !, qed, done, move, keep, split, join, fsplit, fsplit3, fjoin, feq_i, rewrite, suffices, frame, group, whole, sub, look_in, enter, of_opd, lit, unit_lit, bin, load, store_in, stop, fld, assigns, assigns_last, first, blocks, branches, exec, returns, alloc_all, pass_all, free_all, look_at, get, through, sets, env, usize, bool, yes, shows, cell_at, full_share, uint_vals, uint_Tells, bool_vals, bool_Tells, owns, Ptr, block_ptr, in_a_block, mut_vals, mut_Tells, plain, types_at, nothing, opens, closes, heard, peeks, Stays, walk_of, says, stay_dropped, Goes-dropped, stay_ref, Goes-ref, ends_at, then_runs, out_of_block}
use denote.RawPtr.{null_ptr}
use types.Logic.{sem}
use lib.ListN.{length-set}
use lib.Dec.{T}
use lib.Seq.{set-get_or}
use Rattle.osgi_links.specs.computed.Blocks.{block_type}
use Rattle.osgi_links.specs.computed.Chain.{Link, no_link, link_at, next_at, prev_at, with_linked}
use Rattle.osgi_links.specs.computed.Ownership.{nodes_at, nodes_of, nodes_own}
use Rattle.osgi_links.proofs.Memory.{focus_link, unfocus_link}
use Rattle.osgi_links.specs.contracts.nodes.Nodes.set_linked as f
use Rattle.osgi_links.proofs.nodes.Nodes.set_linked.Statement.{statement}
use Rattle.osgi_links.proofs.nodes.Nodes.set_linked.Code as code
use Rattle.osgi_links.specs.contracts.nodes.Nodes.{the_row as R}
use Rattle.osgi_links.proofs.nodes.Nodes.TheLaws.{lowers}

abbrev stayed : Stays f.ended.signature.params f.ended.kept
stayed = (stay_ref (0 ∷ []) tt (plain (λ _. R)), (stay_dropped _ yes, (stay_dropped _ yes, (stay_dropped _ yes, (stay_dropped _ yes, tt)))))

is_true : (t : Bool) → T t → t ≡ true
is_true true y = refl
is_true false y = absurd y

is_false : (t : Bool) → T (not t) → t ≡ false
is_false true y = absurd y
is_false false y = refl

pub set_linked_spec : {M : Type 1} → statement M
set_linked_spec 𝓤 𝓛 𝓜 𝓡 wired =
    let c = f.clauses 𝓛 𝓜.mem 𝓡.returns in let W = walk_of 𝓛 f.ended stayed c in let 𝓣 = tables 𝓤 𝓛.H 𝓜 𝓡 𝓡.env in
    let word = Goes-dropped 𝓛 1 (plain (λ _. usize)) yes (λ κs x w. refl) in let flag = Goes-dropped 𝓛 1 (plain (λ _. bool)) yes (λ κs x w. refl) in
    proved 𝓛 f.ended stayed c 𝓜 𝓡 (Goes-ref 𝓛 1 0 tt (plain (λ _. R)), (word, (flag, (word, (word, tt)))))
    f.Key.name code.function (code.unfolded 𝓤 𝓛.H 𝓜 𝓡 wired)
    (λ κs. (mut_vals, (uint_vals w64, (bool_vals, (uint_vals w64, (uint_vals w64, tt))))))
    (λ κs. (mut_Tells (named 0) κs.0 R, (uint_Tells w64, (bool_Tells, (uint_Tells w64, (uint_Tells w64, tt))))))
    (λ κs qs bounds a _ are.
    let rb = a.0.ref_ptr.0 in let ro = a.0.ref_ptr.1 in let h = a.0.now in let ls = h.links in
    let at = a.1.0 in let linked = a.1.1.0 in let under = a.1.1.1.0 in let row = a.1.1.1.1.0 in
    let y : W.Ghost = ((κs, qs, bounds, a, (mut_vals a.0, (uint_vals w64 at, (bool_vals linked, (uint_vals w64 under, (uint_vals w64 row, tt)))))), tt) in
    let p = prev_at ls at in let n = next_at ls at in
    let block = inside (head code.function.body) in
    qed 𝓛 (((‵ (flft κs.0 qs.0) ⊛ ‵ ftrue) ⊛ ‵ (owns (types_at f.ended.signature.params κs) a y.0.4))
    ∷ (raw (fact 𝓤 (at < length ls)) ⊛ raw (fact 𝓤 (p < length ls)) ⊛ raw (fact 𝓤 (n < length ls))) ∷ []) ∵
    move ! (1 ∷ []) $ split ! $ heard ! (at < length ls) (λ at_in. split ! $ heard ! (p < length ls) (λ p_in. heard ! (n < length ls) (λ n_in.
    let few : length ls * 48 < 2 ^ 63 = omega (arith, h.fits.0, h.fits.1) in
    let fits_at : at < 2 ^ 64 = are.1.0.1 in let scaled : at * 48 < 2 ^ 64 = omega (arith, at_in, few) in
    let fits_under : under < 2 ^ 64 = are.1.1.1.0.1 in let fits_row : row < 2 ^ 64 = are.1.1.1.1.0.1 in
    split ! $ split ! $ move ! (2 ∷ []) $ fsplit ! $ keep ! (0 ∷ 2 ∷ []) $
    enter ! _ _ _ _ _ $ alloc_all ! (λ l. pass_all ! refl ((tt, tt), ((tt, record { fits = fits_at }), ((tt, tt), ((tt, record { fits = fits_under }), ((tt, record { fits = fits_row }), tt))))) $
    let En = env code.Mir.locals l in
    fsplit3 ! $ move ! (1 ∷ 2 ∷ 3 ∷ []) $ opens ! tt R rb ro (λ us.
    move ! (1 ∷ []) $ peeks ! R _ (shows 𝓛 R) h us (λ is. fsplit ! $ move ! (1 ∷ []) $
    in_a_block ! h.start (λ q. nodes_own q ls h.room) (snd∗ 𝓤 (sem 𝓛 (nodes_at null_ptr (nodes_of null_ptr 0 ls))) (never 𝓤)) (λ b o e. fsplit ! $
    let start = block_ptr b o in let word = lowers.val_is h us is ∙ ap (λ (q : Ptr). lowers.lowered (record h { start = q }) ∷ []) e in
    let Cell = λ (ws : List Val). ‵ (cell_at full_share R.mir ws rb ro) in
    rewrite ! 3 Cell word refl $
    -- [the nodes; the room; what the fields own; the struct's cell; the open borrow, in three entries]
    first ! $ blocks ! $
    sets ! (of_opd ! (load ! (through ! refl (fld ! refl (stop !))) (look_in ! 3 (sub ! 0 refl (whole !))))) refl (tt, tt) $
    sets ! (bin ! (get ! refl) (lit ! tt) (record { fits = scaled })) refl (tt, record { fits = scaled }) $
    sets ! (bin ! (get ! refl) (get ! refl) tt) refl (tt, tt) $
    focus_link ! b o ls at at_in (λ f₀.
    sets ! (of_opd ! (load ! (through ! refl (fld ! refl (stop !))) (look_in ! 0 (sub ! 0 refl (whole !))))) refl (tt, tt) $
    sets ! (of_opd ! (load ! (through ! refl (fld ! refl (stop !))) (look_in ! 0 (sub ! 1 refl (whole !))))) refl (tt, tt) $
    unfocus_link ! b o ls at (link_at ls at) at_in f₀ $ rewrite ! 0 (λ (zs : List Link). ‵ (nodes_at start (nodes_of start 0 zs))) (set-get_or ls at no_link) refl $
    sets ! (of_opd ! (get ! refl)) refl (tt, tt) $
    first ! $ branches ! (get ! refl)
    (λ is_in.
    focus_link ! b o ls p p_in (λ f₁. let l₁ : Link = record (link_at ls p) { next = at } in let ls₁ = set ls p l₁ in
    assigns ! (of_opd ! (get ! refl)) (through ! refl (fld ! refl (stop !))) (store_in ! 0 (sub ! 1 refl (whole !)) (tt, tt)) $
    unfocus_link ! b o ls p l₁ p_in (record { number = f₁.number; under = f₁.under; row = f₁.row; value = f₁.value }) $
    let n_in₁ : n < length ls₁ = omega (arith, n_in, length-set ls p l₁) in
    focus_link ! b o ls₁ n n_in₁ (λ f₂. let l₂ : Link = record (link_at ls₁ n) { prev = at } in let ls₂ = set ls₁ n l₂ in
    assigns_last ! (of_opd ! (get ! refl)) (through ! refl (fld ! refl (stop !))) (store_in ! 0 (sub ! 0 refl (whole !)) (tt, tt)) $
    exec ! 𝓣.C 𝓣.Λ En (after 7 block) (out_of_block 𝓛 (then_runs 𝓛 𝓣.C 𝓣.Λ En (after 1 code.function.body) (at_ret En (W.post y)))) $
    unfocus_link ! b o ls₁ n l₂ n_in₁ (record { number = f₂.number; under = f₂.under; row = f₂.row; value = f₂.value }) $
    let at_in₂ : at < length ls₂ = omega (arith, at_in, length-set ls p l₁, length-set ls₁ n l₂) in
    focus_link ! b o ls₂ at at_in₂ (λ f₃. let l₃ : Link = record (link_at ls₂ at) { under = under; row = row } in let ls₃ = set ls₂ at l₃ in
    assigns ! (of_opd ! (get ! refl)) (through ! refl (fld ! refl (stop !))) (store_in ! 0 (sub ! 3 refl (whole !)) (tt, record { fits = fits_under })) $
    assigns_last ! (of_opd ! (get ! refl)) (through ! refl (fld ! refl (stop !))) (store_in ! 0 (sub ! 4 refl (whole !)) (tt, record { fits = fits_row })) $
    exec ! 𝓣.C 𝓣.Λ En (after 1 code.function.body) (at_ret En (W.post y)) $
    sets ! (of_opd ! (unit_lit !)) refl (tt, tt) $
    unfocus_link ! b o ls₂ at l₃ at_in₂ (record { number = f₃.number; under = fits_under; row = fits_row; value = f₃.value }) $
    let size : length ls₃ ≡ length ls = length-set ls₂ at l₃ ∙ length-set ls₁ n l₂ ∙ length-set ls p l₁ in
    rewrite ! 1 (λ (k : ℕ). ‵ (froom (block_type (h.room - k)) b (k * 48 + o))) (sym size) refl $ fjoin ! $
    rewrite ! 0 (λ (q : Ptr). ‵ (nodes_own q ls₃ h.room)) (sym e) refl $ rewrite ! 2 Cell (sym word) refl $
    let new = record h { links = ls₃; fits = (omega (arith, size, h.fits.0), h.fits.1) } in
    move ! (1 ∷ []) $ fjoin ! $ move ! (1 ∷ []) $ closes ! tt R new us rb ro $
    returns ! (look_at ! 0 refl) $ free_all ! refl $ move ! (3 ∷ []) $
    suffices ! _ (ends_at 𝓛 f.ended stayed c y vunit tt (new, (tt, (tt, (tt, (tt, tt))))) (tt, (tt, (tt, (tt, (tt, tt)))))) $
    says ! (ap (λ (t : Bool). with_linked ls at t under row) (sym (is_true linked is_in)), refl, refl) $
    group ! 3 $ nothing ! $ nothing ! $ join ! $ nothing ! $ join ! $ nothing ! $ join ! $ nothing ! $ join ! $ move ! (1 ∷ 0 ∷ []) $ join ! $
    nothing ! $ move ! (2 ∷ 0 ∷ []) $ join ! $ frame ! $ frame ! $ feq_i ! _ (vunit ∷ []) _ refl $ done !))))
    (λ is_out.
    focus_link ! b o ls p p_in (λ f₁. let l₁ : Link = record (link_at ls p) { next = n } in let ls₁ = set ls p l₁ in
    assigns ! (of_opd ! (get ! refl)) (through ! refl (fld ! refl (stop !))) (store_in ! 0 (sub ! 1 refl (whole !)) (tt, tt)) $
    unfocus_link ! b o ls p l₁ p_in (record { number = f₁.number; under = f₁.under; row = f₁.row; value = f₁.value }) $
    let n_in₁ : n < length ls₁ = omega (arith, n_in, length-set ls p l₁) in
    focus_link ! b o ls₁ n n_in₁ (λ f₂. let l₂ : Link = record (link_at ls₁ n) { prev = p } in let ls₂ = set ls₁ n l₂ in
    assigns_last ! (of_opd ! (get ! refl)) (through ! refl (fld ! refl (stop !))) (store_in ! 0 (sub ! 0 refl (whole !)) (tt, tt)) $
    exec ! 𝓣.C 𝓣.Λ En (after 7 block) (out_of_block 𝓛 (then_runs 𝓛 𝓣.C 𝓣.Λ En (after 1 code.function.body) (at_ret En (W.post y)))) $
    unfocus_link ! b o ls₁ n l₂ n_in₁ (record { number = f₂.number; under = f₂.under; row = f₂.row; value = f₂.value }) $
    let at_in₂ : at < length ls₂ = omega (arith, at_in, length-set ls p l₁, length-set ls₁ n l₂) in
    focus_link ! b o ls₂ at at_in₂ (λ f₃. let l₃ : Link = record (link_at ls₂ at) { under = under; row = row } in let ls₃ = set ls₂ at l₃ in
    assigns ! (of_opd ! (get ! refl)) (through ! refl (fld ! refl (stop !))) (store_in ! 0 (sub ! 3 refl (whole !)) (tt, record { fits = fits_under })) $
    assigns_last ! (of_opd ! (get ! refl)) (through ! refl (fld ! refl (stop !))) (store_in ! 0 (sub ! 4 refl (whole !)) (tt, record { fits = fits_row })) $
    exec ! 𝓣.C 𝓣.Λ En (after 1 code.function.body) (at_ret En (W.post y)) $
    sets ! (of_opd ! (unit_lit !)) refl (tt, tt) $
    unfocus_link ! b o ls₂ at l₃ at_in₂ (record { number = f₃.number; under = fits_under; row = fits_row; value = f₃.value }) $
    let size : length ls₃ ≡ length ls = length-set ls₂ at l₃ ∙ length-set ls₁ n l₂ ∙ length-set ls p l₁ in
    rewrite ! 1 (λ (k : ℕ). ‵ (froom (block_type (h.room - k)) b (k * 48 + o))) (sym size) refl $ fjoin ! $
    rewrite ! 0 (λ (q : Ptr). ‵ (nodes_own q ls₃ h.room)) (sym e) refl $ rewrite ! 2 Cell (sym word) refl $
    let new = record h { links = ls₃; fits = (omega (arith, size, h.fits.0), h.fits.1) } in
    move ! (1 ∷ []) $ fjoin ! $ move ! (1 ∷ []) $ closes ! tt R new us rb ro $
    returns ! (look_at ! 0 refl) $ free_all ! refl $ move ! (3 ∷ []) $
    suffices ! _ (ends_at 𝓛 f.ended stayed c y vunit tt (new, (tt, (tt, (tt, (tt, tt))))) (tt, (tt, (tt, (tt, (tt, tt)))))) $
    says ! (ap (λ (t : Bool). with_linked ls at t under row) (sym (is_false linked is_out)), refl, refl) $
    group ! 3 $ nothing ! $ nothing ! $ join ! $ nothing ! $ join ! $ nothing ! $ join ! $ nothing ! $ join ! $ move ! (1 ∷ 0 ∷ []) $ join ! $
    nothing ! $ move ! (2 ∷ 0 ∷ []) $ join ! $ frame ! $ frame ! $ feq_i ! _ (vunit ∷ []) _ refl $ done !)))))))))))))
