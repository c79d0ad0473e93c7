-- What a `&` to the nodes shows: where they lie, and a `&` to each field of each. Assumes `Logic`.
use mathlib.Core.Path.{◌≡◌, refl, sym, ap, ◌∙◌}
use Prim.Native.Nat.{ℕ, zero, suc, ◌+◌, ◌*◌, ◌<◌, ◌^◌}
use native.Mathlib.Nat.{not-suc-le-zero, le_of_suc-le-suc}
use native.Mathlib.Omega.{arith}
use mathlib.Core.List.{List, [], ◌∷◌}
use lib.ListN.{length, get_or}
use seplogic.Ra.Ura.{Ura}
use mir.Syntax.{w64, ty_int, ty_ptr}
use mir.Val.{Val, vint, vptr, vstruct, vcons, vnil}
use base.Logic.{ent, sep, emp, never}
use base.Fml.{Lft, Share, Fml, fat, flft, fhide}
use types.Logic.{Logic, sem}
use types.Kit.{Goal, Soaks, Step, step, Seq, Item, ‵, ◌⊛◌, ◌$◌, ◌∵◌, !, qed, by, move, keep, drop, use1, split, rewrite, fsplit, fjoin, feq_l, feq_i, flt_l, flt_i, done}
use denote.Builtin.{usize, u64}
use denote.Memory.{cell_at, part_at, hidden_shr}
use denote.Copied.{plain_Copied, uint_Copied}
use denote.RattleType.{RattleType}
use denote.RawPtr.{Ptr, RawPtr, block_ptr, null_ptr, coded_ptr, ptr_own, rawptr_pure, ptr_val, ◌+ₚ◌}
use denote.Index.{place, place_is}
use denote.Shadow.{makes_shadow}
use denote.Sharing.{ShrLaws}
use denote.SharingLaws.{nothing_shr_laws, beside_shr_laws}
use denote.Struct.Laws.{RawPtr-laws}
use denote.Struct.Lending.{lent_at, lent_at_shr_laws, lent_out}
use denote.Struct.Owning.{shape}
use denote.Struct.Struct.{Struct}
use denote.Opens.{Shut, unhide}
use denote.Steps.{looks, shuts}
use Rattle.osgi_links.specs.declared.nodes.Node.{Node}
use Rattle.osgi_links.specs.declared.nodes.Nodes.{Nodes}
use Rattle.osgi_links.specs.declared.nodes.Shown.{Shown}
use Rattle.osgi_links.specs.contracts.nodes.Node.{the_row as R}
use Rattle.osgi_links.proofs.nodes.Node.TheLaws.{the_row_laws as L}
use Rattle.osgi_links.specs.contracts.nodes.Nodes as C
use Rattle.osgi_links.specs.computed.Chain.{Link, link_at}
use Rattle.osgi_links.specs.computed.Ownership.{node_of, nodes_at_lent, nodes_lent, nodes_of}
use Rattle.osgi_links.proofs.Memory.{plainly}
use Rattle.osgi_links.proofs.Numbers.{get_of, nodes_of-length}

pub lent_laws : (p : Ptr) (xs : List Node) → ShrLaws (nodes_at_lent p xs)
lent_laws p [] = nothing_shr_laws
lent_laws p (x ∷ xs) = beside_shr_laws (lent_at R p x) (nodes_at_lent (p +ₚ 48) xs) (lent_at_shr_laws R L.shr_laws p x) (lent_laws (p +ₚ 48) xs)

-- the one field of `Nodes`, as a plain struct
abbrev Words : RattleType
Words = Struct (shape C.the_type)

abbrev pub shown_val : Shown → Val
shown_val x = vstruct (vcons (vint w64 x.next) (vcons (vint w64 x.under) (vcons (vint w64 x.row) (vcons (vint w64 x.value) vnil))))

abbrev pub shown_own : Shown → List Val → Fml
shown_own x = (plainly (usize ∷ usize ∷ usize ∷ u64 ∷ [])).own_val (x.next, (x.under, (x.row, (x.value, tt))))

pub shown_made : {M : Type 1} {𝓤 : Ura M} (𝓛 : Logic 𝓤) (x : Shown) → x.next < 2 ^ 64 → x.under < 2 ^ 64 → x.row < 2 ^ 64 → x.value < 2 ^ 64 → ent 𝓤 (emp 𝓤) (sem 𝓛 (shown_own x (shown_val x ∷ [])))
shown_made 𝓛 x fn fu fr fv = makes_shadow 𝓛 (shown_own x (shown_val x ∷ [])) (λ _. (tt, ((tt, tt), ((tt, tt), ((tt, tt), ((tt, tt), tt))))))
    ((vint w64 x.next ∷ [], (vint w64 x.under ∷ [], (vint w64 x.row ∷ [], (vint w64 x.value ∷ [], tt)))), (refl, ((refl, fn), ((refl, fu), ((refl, fr), ((refl, fv), tt))))))

module _ {M : Type 1} {𝓤 : Ura M} (𝓛 : Logic 𝓤) (κ : Lft) where
  pub shown : (d : Nodes) (b o : ℕ) → ent 𝓤 (sem 𝓛 (hidden_shr C.the_row κ d b o)) (sep 𝓤 (sem 𝓛 (hidden_shr RawPtr κ d.start b (o + 0))) (sem 𝓛 (nodes_lent d.start d.links κ)))
  shown d b o = qed 𝓛 (‵ (hidden_shr C.the_row κ d b o) ∷ []) ∵
      use1 𝓛 (‵ (hidden_shr Words κ (d.start, tt) b o) ⊛ ‵ (fhide (C.the_lent d d.start κ))) (lent_out 𝓛 C.struct C.the_codes C.the_heap C.the_lent κ d b o) $ split ! $
      unhide ! $ fsplit ! $ fsplit ! $ keep ! (0 ∷ 3 ∷ []) $ done !

  pub null_lent : (links : List Link) → 0 < length links → ent 𝓤 (sem 𝓛 (nodes_lent null_ptr links κ)) (never 𝓤)
  null_lent [] h = absurd (let h' : 0 < 0 = h in omega (arith, h'))
  null_lent (l ∷ links) h = qed 𝓛 (‵ (nodes_lent null_ptr (l ∷ links) κ) ∷ []) ∵ fsplit ! $ fsplit ! $ keep ! (0 ∷ []) $ done !

  one_lent : (b o : ℕ) (xs : List Node) (i : ℕ) (d : Node) → i < length xs → ent 𝓤 (sem 𝓛 (nodes_at_lent (block_ptr b o) xs κ)) (sem 𝓛 (hidden_shr R κ (get_or xs i d) b (place 48 o i)))
  one_lent b o [] i d l = absurd (not-suc-le-zero l)
  one_lent b o (x ∷ xs) zero d l = qed 𝓛 (‵ (nodes_at_lent (block_ptr b o) (x ∷ xs) κ) ∷ []) ∵ fsplit ! $ fsplit ! $ keep ! (1 ∷ []) $ done !
  one_lent b o (x ∷ xs) (suc i) d l = qed 𝓛 (‵ (nodes_at_lent (block_ptr b o) (x ∷ xs) κ) ∷ []) ∵ fsplit ! $ drop ! $ by ! (one_lent b (o + 48) xs i d (le_of_suc-le-suc l))

  pub link_lent : (b o : ℕ) (links : List Link) (i : ℕ) → i < length links
      → ent 𝓤 (sem 𝓛 (nodes_lent (block_ptr b o) links κ)) (sem 𝓛 (hidden_shr R κ (node_of (block_ptr b o) i (link_at links i)) b (i * 48 + o)))
  link_lent b o links i l =
      let start = block_ptr b o in let d = node_of start i (link_at links i) in
      let m : i < length (nodes_of start 0 links) = omega (arith, l, nodes_of-length start 0 links) in
      qed 𝓛 (‵ (nodes_lent start links κ) ∷ []) ∵
      use1 𝓛 (‵ (hidden_shr R κ (get_or (nodes_of start 0 links) i d) b (place 48 o i))) (one_lent b o (nodes_of start 0 links) i d m) $
      rewrite ! 0 (λ (k : ℕ). ‵ (hidden_shr R κ (get_or (nodes_of start 0 links) i d) b k)) (place_is 48 o i) refl $
      rewrite ! 0 (λ (x : Node). ‵ (hidden_shr R κ x b (i * 48 + o))) (get_of start links i d l) refl $ done !

  -- the fields of a node, but for the link back
  pub fields_shown : (x : Node) (b o : ℕ) → ent 𝓤 (sem 𝓛 (hidden_shr R κ x b o))
      (sep 𝓤 (sem 𝓛 (hidden_shr RawPtr κ x.next b (o + 8))) (sep 𝓤 (sem 𝓛 (hidden_shr usize κ x.number b (o + 16))) (sep 𝓤 (sem 𝓛 (hidden_shr usize κ x.under b (o + 24)))
      (sep 𝓤 (sem 𝓛 (hidden_shr usize κ x.row b (o + 32))) (sem 𝓛 (hidden_shr u64 κ x.value b (o + 40)))))))
  fields_shown x b o = qed 𝓛 (‵ (hidden_shr R κ x b o) ∷ []) ∵
      unhide ! $ fsplit ! $ fsplit ! $ drop ! $ fsplit ! $ move ! (1 ∷ []) $ fsplit ! $ move ! (1 ∷ []) $ fsplit ! $ move ! (1 ∷ []) $ fsplit ! $ move ! (1 ∷ []) $ fsplit ! $
      keep ! (5 ∷ 4 ∷ 3 ∷ 2 ∷ 0 ∷ []) $ done !

module _ {M : Type 1} {𝓤 : Ura M} {𝓛 : Logic 𝓤} {K : Type 0} {Γ : List (Item 𝓤)} {G : Goal 𝓤 𝓛.H} where
  -- a number behind a `&` is looked at: [the number; the way back]
  pub word_in : K → Soaks G → {κ : Lft} {q : Share} (n b at : ℕ)
      → ((q' : Share) → n < 2 ^ 64 → Seq K 𝓛 (‵ (fat q' (ty_int w64) b at (vint w64 n)) ∷ Shut 𝓛 κ q (part_at usize q' n b at) ∷ Γ) G) → Seq K 𝓛 (‵ (hidden_shr usize κ n b at) ∷ ‵ (flft κ q) ∷ Γ) G
  word_in t z n b at k =
      looks t z usize (uint_Copied 𝓛 w64).opens n b at (λ q' vs. move t (1 ∷ []) $ fsplit t $ feq_l t (λ e. flt_l t (λ fn.
      rewrite t 0 (λ (us : List Val). ‵ (cell_at q' usize.mir us b at)) e refl $ move t (2 ∷ []) $ drop t $ k q' fn)))

  pub word_out : K → Soaks G → {κ : Lft} {q q' : Share} (n b at : ℕ) → n < 2 ^ 64
      → Step K 𝓛 (‵ (flft κ q) ∷ Γ) G (‵ (fat q' (ty_int w64) b at (vint w64 n)) ∷ Shut 𝓛 κ q (part_at usize q' n b at) ∷ Γ) G
  word_out t z {q' = q'} n b at fn = step (λ s.
      flt_i t n (2 ^ 64) fn $ feq_i t (List Val) (vint w64 n ∷ []) (vint w64 n ∷ []) refl $ fjoin t $ move t (1 ∷ 0 ∷ []) $ shuts t z usize q' n (vint w64 n ∷ []) b at $ s)

  pub long_in : K → Soaks G → {κ : Lft} {q : Share} (n b at : ℕ)
      → ((q' : Share) → n < 2 ^ 64 → Seq K 𝓛 (‵ (fat q' (ty_int w64) b at (vint w64 n)) ∷ Shut 𝓛 κ q (part_at u64 q' n b at) ∷ Γ) G) → Seq K 𝓛 (‵ (hidden_shr u64 κ n b at) ∷ ‵ (flft κ q) ∷ Γ) G
  long_in t z n b at k =
      looks t z u64 (uint_Copied 𝓛 w64).opens n b at (λ q' vs. move t (1 ∷ []) $ fsplit t $ feq_l t (λ e. flt_l t (λ fn.
      rewrite t 0 (λ (us : List Val). ‵ (cell_at q' u64.mir us b at)) e refl $ move t (2 ∷ []) $ drop t $ k q' fn)))

  pub long_out : K → Soaks G → {κ : Lft} {q q' : Share} (n b at : ℕ) → n < 2 ^ 64
      → Step K 𝓛 (‵ (flft κ q) ∷ Γ) G (‵ (fat q' (ty_int w64) b at (vint w64 n)) ∷ Shut 𝓛 κ q (part_at u64 q' n b at) ∷ Γ) G
  long_out t z {q' = q'} n b at fn = step (λ s.
      flt_i t n (2 ^ 64) fn $ feq_i t (List Val) (vint w64 n ∷ []) (vint w64 n ∷ []) refl $ fjoin t $ move t (1 ∷ 0 ∷ []) $ shuts t z u64 q' n (vint w64 n ∷ []) b at $ s)

  -- the same of a pointer into a block
  pub pointer_in : K → Soaks G → {κ : Lft} {q : Share} (p : Ptr) (pb po : ℕ) → p ≡ block_ptr pb po → (b at : ℕ)
      → ((q' : Share) → Seq K 𝓛 (‵ (fat q' ty_ptr b at (vptr pb po)) ∷ Shut 𝓛 κ q (part_at RawPtr q' p b at) ∷ Γ) G) → Seq K 𝓛 (‵ (hidden_shr RawPtr κ p b at) ∷ ‵ (flft κ q) ∷ Γ) G
  pointer_in t z p pb po is b at k =
      looks t z RawPtr (plain_Copied 𝓛 Ptr coded_ptr (ty_ptr ∷ []) ptr_own rawptr_pure ptr_val RawPtr-laws.tells).opens p b at (λ q' vs. move t (1 ∷ []) $ feq_l t (λ e.
      rewrite t 0 (λ (us : List Val). ‵ (cell_at q' RawPtr.mir us b at)) (e ∙ ap (λ (r : Ptr). ptr_val r ∷ []) is) refl $ move t (2 ∷ []) $ drop t $ k q'))

  pub pointer_out : K → Soaks G → {κ : Lft} {q q' : Share} (p : Ptr) (pb po : ℕ) → p ≡ block_ptr pb po → (b at : ℕ)
      → Step K 𝓛 (‵ (flft κ q) ∷ Γ) G (‵ (fat q' ty_ptr b at (vptr pb po)) ∷ Shut 𝓛 κ q (part_at RawPtr q' p b at) ∷ Γ) G
  pointer_out t z {q' = q'} p pb po is b at = step (λ s.
      feq_i t (List Val) (vptr pb po ∷ []) (ptr_val p ∷ []) (ap (λ (r : Ptr). ptr_val r ∷ []) (sym is)) $ move t (1 ∷ 0 ∷ []) $ shuts t z RawPtr q' p (vptr pb po ∷ []) b at $ s)
