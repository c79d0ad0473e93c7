-- A node comes out of the nodes in memory, and goes back. Assumes `Logic`.
use mathlib.Core.Path.{◌≡◌, refl, sym, ap, subst, ◌∙◌}
use Prim.Native.Nat.{ℕ, zero, suc, ◌+◌, ◌-◌, ◌*◌, ◌<◌, ◌≤◌, ◌^◌}
use native.Mathlib.Nat.{not-suc-le-zero, le_of_suc-le-suc}
use native.Mathlib.Omega.{arith}
use mathlib.Core.List.{List, [], ◌∷◌, ◌++◌}
use lib.ListN.{length, get_or, set}
use seplogic.Ra.Ura.{Ura}
use base.Fraction.{full_share}
use mir.Syntax.{Ty, w64}
use mir.Val.{Val, vint, vstruct, vcons, vnil, of_list}
use base.Logic.{SProp, ent, sep, emp, guard}
use base.Fml.{Fml, ftrue, fsep, fat, froom}
use types.Logic.{Logic, sem}
use types.Kit.{Goal, Seq, Step, Item, step, ‵, ◌⊛◌, some, given, ◌$◌, ◌∵◌, !, qed, by, move, drop, use0, use1, use2, split, pick, learn, rewrite, fsplit, check, frame, done}
use borrow.Table.OneValue.{part_in, part_out}
use denote.Builtin.{usize, u64}
use denote.Laws.{Is, shows}
use denote.Memory.{part_at, lone}
use denote.RattleType.{RattleType}
use denote.RawPtr.{RawPtr, block_ptr, ptr_val}
use denote.RawPtr.Room.{room_glue, past}
use denote.Index.{place, place_is}
use denote.Shadow.{shadow, makes_shadow}
use denote.Steps.{only, peeks}
use denote.Struct.Struct.{Struct}
use Rattle.osgi_links.specs.declared.nodes.Node.{Node}
use Rattle.osgi_links.specs.contracts.nodes.Node.{the_row as R}
use Rattle.osgi_links.specs.computed.Blocks.{block_type, node_type}
use Rattle.osgi_links.specs.computed.Chain.{Link, link_at}
use Rattle.osgi_links.specs.computed.Ownership.{node_of, nodes_at, nodes_of, nodes_own}
use Rattle.osgi_links.proofs.Numbers.{get_of, nodes_of-length, push_of, set_of}

abbrev pub node_ty : Ty
node_ty = lone R.mir

-- a struct by its fields alone: what it owns does not read its name
abbrev pub plainly : List RattleType → RattleType
plainly Rs = Struct (record { name = []; args = []; types = []; fields = Rs })

-- the machine value of a node
abbrev pub node_val : Node → Val
node_val x = vstruct (vcons (ptr_val x.prev) (vcons (ptr_val x.next) (vcons (vint w64 x.number) (vcons (vint w64 x.under) (vcons (vint w64 x.row) (vcons (vint w64 x.value) vnil))))))

-- its numbers fit
pub record Fits (x : Node) : Type 0 where
  pub number : x.number < 2 ^ 64
  pub under : x.under < 2 ^ 64
  pub row : x.row < 2 ^ 64
  pub value : x.value < 2 ^ 64

abbrev node_own : Node → List Val → Fml
node_own x = (plainly (RawPtr ∷ RawPtr ∷ usize ∷ usize ∷ usize ∷ u64 ∷ [])).own_val (x.prev, (x.next, (x.number, (x.under, (x.row, (x.value, tt))))))

node_told : (x : Node) (vs : List Val) → shadow (node_own x vs) → (vs ≡ node_val x ∷ []) × Fits x
node_told x vs s = (
  s.1.0 ∙ (λ i. vstruct (of_list (s.1.1.0 i ++ (s.1.1.1.0 i ++ (s.1.1.1.1.0.0 i ++ (s.1.1.1.1.1.0.0 i ++ (s.1.1.1.1.1.1.0.0 i ++ (s.1.1.1.1.1.1.1.0.0 i ++ []))))))) ∷ []),
  record { number = s.1.1.1.1.0.1; under = s.1.1.1.1.1.0.1; row = s.1.1.1.1.1.1.0.1; value = s.1.1.1.1.1.1.1.0.1 },
)

node_made : {M : Type 1} {𝓤 : Ura M} (𝓛 : Logic 𝓤) (x : Node) → Fits x → ent 𝓤 (emp 𝓤) (sem 𝓛 (node_own x (node_val x ∷ [])))
node_made 𝓛 x f = makes_shadow 𝓛 (node_own x (node_val x ∷ [])) (λ _. (tt, (tt, (tt, ((tt, tt), ((tt, tt), ((tt, tt), ((tt, tt), tt)))))))) (
  (ptr_val x.prev ∷ [], (ptr_val x.next ∷ [], (vint w64 x.number ∷ [], (vint w64 x.under ∷ [], (vint w64 x.row ∷ [], (vint w64 x.value ∷ [], tt)))))),
  (refl, (refl, (refl, ((refl, f.number), ((refl, f.under), ((refl, f.row), ((refl, f.value), tt))))))),
)

module _ {M : Type 1} {𝓤 : Ura M} (𝓛 : Logic 𝓤) (b : ℕ) where
  open 𝓛 use {H}

  abbrev ◌⊢◌ : SProp 𝓤 → SProp 𝓤 → Type 1
  P ⊢ Q = ent 𝓤 P Q

  abbrev ◌∗◌ : SProp 𝓤 → SProp 𝓤 → SProp 𝓤
  P ∗ Q = sep 𝓤 P Q

  abbrev ⟦◌⟧ : Fml → SProp 𝓤
  ⟦ P ⟧ = sem 𝓛 P

  infix 26 ◌⊢◌
  infixr 35 ◌∗◌
  abbrev one : Node → ℕ → Fml
  one x o = part_at R full_share x b o

  abbrev pub all : ℕ → List Node → Fml
  all o xs = nodes_at (block_ptr b o) xs

  -- the nodes without the i-th
  abbrev pub besides : ℕ → List Node → ℕ → Fml
  besides o [] i = ftrue
  besides o (x ∷ xs) zero = all (o + 48) xs
  besides o (x ∷ xs) (suc i) = fsep (one x o) (besides (o + 48) xs i)

  takes : (xs : List Node) (i : ℕ) (d : Node) (o : ℕ) → i < length xs → ⟦ all o xs ⟧ ⊢ ⟦ one (get_or xs i d) (place 48 o i) ⟧ ∗ ⟦ besides o xs i ⟧
  takes [] i d o l = absurd (not-suc-le-zero l)
  takes (x ∷ xs) zero d o l = qed 𝓛 (‵ (all o (x ∷ xs)) ∷ []) ∵ fsplit ! $ done !
  takes (x ∷ xs) (suc i) d o l =
      qed 𝓛 (‵ (all o (x ∷ xs)) ∷ []) ∵ fsplit ! $ move ! (1 ∷ []) $
      use1 𝓛 (‵ (one (get_or xs i d) (place 48 (o + 48) i)) ⊛ ‵ (besides (o + 48) xs i)) (takes xs i d (o + 48) (le_of_suc-le-suc l)) $ split ! $ frame ! $ move ! (1 ∷ 0 ∷ []) $ done !

  puts : (xs : List Node) (i : ℕ) (y : Node) (o : ℕ) → i < length xs → ⟦ one y (place 48 o i) ⟧ ∗ ⟦ besides o xs i ⟧ ⊢ ⟦ all o (set xs i y) ⟧
  puts [] i y o l = absurd (not-suc-le-zero l)
  puts (x ∷ xs) zero y o l = qed 𝓛 (‵ (one y o) ∷ ‵ (all (o + 48) xs) ∷ []) ∵ done !
  puts (x ∷ xs) (suc i) y o l =
      qed 𝓛 (‵ (one y (place 48 (o + 48) i)) ∷ ‵ (besides o (x ∷ xs) (suc i)) ∷ []) ∵ move ! (1 ∷ []) $ fsplit ! $ move ! (2 ∷ 1 ∷ []) $
      use2 𝓛 (‵ (all (o + 48) (set xs i y))) (puts xs i y (o + 48) (le_of_suc-le-suc l)) $ move ! (1 ∷ 0 ∷ []) $ done !

  -- a node more behind the last
  pub append : (xs : List Node) (y : Node) (o : ℕ) → ⟦ all o xs ⟧ ∗ ⟦ one y (place 48 o (length xs)) ⟧ ⊢ ⟦ all o (xs ++ y ∷ []) ⟧
  append [] y o = qed 𝓛 (‵ (all o []) ∷ ‵ (one y o) ∷ []) ∵ move ! (1 ∷ 0 ∷ []) $ done !
  append (x ∷ xs) y o = qed 𝓛 (‵ (all o (x ∷ xs)) ∷ ‵ (one y (place 48 (o + 48) (length xs))) ∷ []) ∵ fsplit ! $ frame ! $ by ! (append xs y (o + 48))

  pub node_out : (x : Node) (o : ℕ) → ⟦ one x o ⟧ ⊢ guard 𝓤 (Fits x) (H.at full_share node_ty b o (node_val x))
  node_out x o = qed 𝓛 (‵ (one x o) ∷ []) ∵
      use1 𝓛 (some (λ (v : Val). ‵ (fat full_share node_ty b o v) ⊛ ‵ (R.own_val x (v ∷ [])))) (part_out 𝓛 R refl full_share x b o) $ pick ! (λ v. split ! $ move ! (1 ∷ []) $
      peeks ! R (Is R) (shows 𝓛 R) x (v ∷ []) (λ p. let t = node_told x (v ∷ []) p in drop ! $
      rewrite ! 0 (λ (u : Val). ‵ (fat full_share node_ty b o u)) (ap only t.0) refl $ check ! t.1 $ done !))

  pub node_in : (x : Node) (o : ℕ) → Fits x → H.at full_share node_ty b o (node_val x) ⊢ ⟦ one x o ⟧
  node_in x o f = qed 𝓛 (‵ (fat full_share node_ty b o (node_val x)) ∷ []) ∵
      use0 𝓛 (‵ (R.own_val x (node_val x ∷ []))) (node_made 𝓛 x f) $ move ! (1 ∷ 0 ∷ []) $ by ! (part_in 𝓛 R refl full_share x b o (node_val x))

  pub node_takes : (xs : List Node) (i : ℕ) (d : Node) (o : ℕ) → i < length xs
      → ⟦ all o xs ⟧ ⊢ guard 𝓤 (Fits (get_or xs i d)) (H.at full_share node_ty b (i * 48 + o) (node_val (get_or xs i d)) ∗ ⟦ besides o xs i ⟧)
  node_takes xs i d o l = qed 𝓛 (‵ (all o xs) ∷ []) ∵
      use1 𝓛 (‵ (one (get_or xs i d) (place 48 o i)) ⊛ ‵ (besides o xs i)) (takes xs i d o l) $ split ! $ rewrite ! 0 (λ (k : ℕ). ‵ (one (get_or xs i d) k)) (place_is 48 o i) refl $
      use1 𝓛 (given (Fits (get_or xs i d)) (‵ (fat full_share node_ty b (i * 48 + o) (node_val (get_or xs i d))))) (node_out (get_or xs i d) (i * 48 + o)) $ learn ! (λ f. check ! f $ done !)

  pub node_puts : (xs : List Node) (i : ℕ) (y : Node) (o : ℕ) → i < length xs → Fits y
      → H.at full_share node_ty b (i * 48 + o) (node_val y) ∗ ⟦ besides o xs i ⟧ ⊢ ⟦ all o (set xs i y) ⟧
  node_puts xs i y o l f = qed 𝓛 (‵ (fat full_share node_ty b (i * 48 + o) (node_val y)) ∷ ‵ (besides o xs i) ∷ []) ∵
      use1 𝓛 (‵ (one y (i * 48 + o))) (node_in y (i * 48 + o) f) $ rewrite ! 0 (λ (k : ℕ). ‵ (one y k)) (sym (place_is 48 o i)) refl $ by ! (puts xs i y o l)

module _ {M : Type 1} {𝓤 : Ura M} {𝓛 : Logic 𝓤} {K : Type 0} {Γ : List (Item 𝓤)} {G : Goal 𝓤 𝓛.H} where
  -- [the node; the others]
  pub focus : K → (b o : ℕ) (xs : List Node) (i : ℕ) (d : Node) → i < length xs
      → (Fits (get_or xs i d) → Seq K 𝓛 (‵ (fat full_share node_ty b (i * 48 + o) (node_val (get_or xs i d))) ∷ ‵ (besides 𝓛 b o xs i) ∷ Γ) G)
      → Seq K 𝓛 (‵ (nodes_at (block_ptr b o) xs) ∷ Γ) G
  focus t b o xs i d l k =
      use1 𝓛 (given (Fits (get_or xs i d)) (‵ (fat full_share node_ty b (i * 48 + o) (node_val (get_or xs i d))) ⊛ ‵ (besides 𝓛 b o xs i))) (node_takes 𝓛 b xs i d o l) $ learn t (λ f. split t $ k f)

  pub unfocus : K → (b o : ℕ) (xs : List Node) (i : ℕ) (y : Node) → i < length xs → Fits y
      → Step K 𝓛 (‵ (nodes_at (block_ptr b o) (set xs i y)) ∷ Γ) G (‵ (fat full_share node_ty b (i * 48 + o) (node_val y)) ∷ ‵ (besides 𝓛 b o xs i) ∷ Γ) G
  unfocus t b o xs i y l f = step (λ s. use2 𝓛 (‵ (nodes_at (block_ptr b o) (set xs i y))) (node_puts 𝓛 b xs i y o l f) $ s)

  -- the same, by numbers
  pub focus_link : K → (b o : ℕ) (links : List Link) (i : ℕ) → i < length links
      → (Fits (node_of (block_ptr b o) i (link_at links i))
      → Seq K 𝓛 (‵ (fat full_share node_ty b (i * 48 + o) (node_val (node_of (block_ptr b o) i (link_at links i)))) ∷ ‵ (besides 𝓛 b o (nodes_of (block_ptr b o) 0 links) i) ∷ Γ) G)
      → Seq K 𝓛 (‵ (nodes_at (block_ptr b o) (nodes_of (block_ptr b o) 0 links)) ∷ Γ) G
  focus_link t b o links i l k =
      let start = block_ptr b o in let d = node_of start i (link_at links i) in
      let is : get_or (nodes_of start 0 links) i d ≡ d = get_of start links i d l in
      let m : i < length (nodes_of start 0 links) = omega (arith, l, nodes_of-length start 0 links) in
      focus t b o (nodes_of start 0 links) i d m (λ f. rewrite t 0 (λ (x : Node). ‵ (fat full_share node_ty b (i * 48 + o) (node_val x))) is refl $ k (subst Fits is f))

  pub unfocus_link : K → (b o : ℕ) (links : List Link) (i : ℕ) (l : Link) → i < length links → Fits (node_of (block_ptr b o) i l)
      → Step K 𝓛 (‵ (nodes_at (block_ptr b o) (nodes_of (block_ptr b o) 0 (set links i l))) ∷ Γ) G
      (‵ (fat full_share node_ty b (i * 48 + o) (node_val (node_of (block_ptr b o) i l))) ∷ ‵ (besides 𝓛 b o (nodes_of (block_ptr b o) 0 links) i) ∷ Γ) G
  unfocus_link t b o links i l m f = step (λ s.
      let start = block_ptr b o in
      let m' : i < length (nodes_of start 0 links) = omega (arith, m, nodes_of-length start 0 links) in
      unfocus t b o (nodes_of start 0 links) i (node_of start i l) m' f $
      rewrite t 0 (λ (zs : List Node). ‵ (nodes_at start zs)) (set_of start links i l) refl $ s)

  -- a node more behind the last: [the node; the nodes so far]
  pub push_link : K → (b o : ℕ) (links : List Link) (at : ℕ) (l : Link) → at ≡ length links → Fits (node_of (block_ptr b o) at l)
      → Step K 𝓛 (‵ (nodes_at (block_ptr b o) (nodes_of (block_ptr b o) 0 (links ++ l ∷ []))) ∷ Γ) G
      (‵ (fat full_share node_ty b (at * 48 + o) (node_val (node_of (block_ptr b o) at l))) ∷ ‵ (nodes_at (block_ptr b o) (nodes_of (block_ptr b o) 0 links)) ∷ Γ) G
  push_link t b o links at l is f = step (λ s.
      let start = block_ptr b o in let xs = nodes_of start 0 links in let y = node_of start at l in
      let there : at * 48 + o ≡ place 48 o (length xs) = ap (λ n. n * 48 + o) (is ∙ sym (nodes_of-length start 0 links)) ∙ sym (place_is 48 o (length xs)) in
      use1 𝓛 (‵ (part_at R full_share y b (at * 48 + o))) (node_in 𝓛 b y (at * 48 + o) f) $ rewrite t 0 (λ (k : ℕ). ‵ (part_at R full_share y b k)) there refl $ move t (1 ∷ 0 ∷ []) $
      use2 𝓛 (‵ (nodes_at start (xs ++ y ∷ []))) (append 𝓛 b xs y o) $ rewrite t 0 (λ (zs : List Node). ‵ (nodes_at start zs)) (push_of start links at l is) refl $ s)

  -- the next node's room comes out of the rest's: [its room; the rest's]
  pub room_link : K → (b x k : ℕ) → Step K 𝓛 (‵ (froom node_ty b x) ∷ ‵ (froom (block_type k) b (x + 48)) ∷ Γ) G (‵ (froom (block_type (suc k)) b x) ∷ Γ) G
  room_link t b x k = step (λ s. use1 𝓛 (‵ (froom node_type b x) ⊛ ‵ (froom (block_type k) b (x + 48))) (𝓛.laws.room_uncons node_type k b x) $ split t $ use1 𝓛 (‵ (froom node_ty b x)) (𝓛.laws.raw-room node_ty b x) $ s)

past_nodes : (k o : ℕ) → past node_type k o ≡ o + k * 48
past_nodes zero o = omega arith
past_nodes (suc k) o = past_nodes k (o + 48) ∙ omega arith

module _ {M : Type 1} {𝓤 : Ura M} (𝓛 : Logic 𝓤) (b : ℕ) where
  open 𝓛 use {H}

  emptied : (xs : List Node) (o : ℕ) → ent 𝓤 (sem 𝓛 (nodes_at (block_ptr b o) xs)) (H.room (block_type (length xs)) b o)
  emptied [] o = 𝓛.laws.room_nil node_type b o
  emptied (x ∷ xs) o = qed 𝓛 (‵ (nodes_at (block_ptr b o) (x ∷ xs)) ∷ []) ∵ fsplit ! $
      use1 𝓛 (given (Fits x) (‵ (fat full_share node_ty b o (node_val x)))) (node_out 𝓛 b x o) $ learn ! (λ f.
      use1 𝓛 (‵ (froom node_ty b o)) (𝓛.laws.at_room node_ty b o (node_val x)) $ use1 𝓛 (‵ (froom node_type b o)) (𝓛.laws.room-raw node_ty b o) $ move ! (1 ∷ []) $
      use1 𝓛 (‵ (froom (block_type (length xs)) b (o + 48))) (emptied xs (o + 48)) $ move ! (1 ∷ []) $ by ! (𝓛.laws.room_cons node_type (length xs) b o))

  -- all the block is room again
  pub all_room : (links : List Link) (room o : ℕ) → length links ≤ room → ent 𝓤 (sem 𝓛 (nodes_own (block_ptr b o) links room)) (H.room (block_type room) b o)
  all_room links room o h =
      let start = block_ptr b o in let n = length links in let xs = nodes_of start 0 links in
      let sum : n + (room - n) ≡ room = omega (arith, h) in
      let there : n * 48 + o ≡ past node_type n o = (let p = past_nodes n o in omega (arith, p)) in
      qed 𝓛 (‵ (nodes_own start links room) ∷ []) ∵ fsplit ! $ use1 𝓛 (‵ (froom (block_type (length xs)) b o)) (emptied xs o) $
      rewrite ! 0 (λ (k : ℕ). ‵ (froom (block_type k) b o)) (nodes_of-length start 0 links) refl $
      rewrite ! 1 (λ (k : ℕ). ‵ (froom (block_type (room - n)) b k)) there refl $
      use2 𝓛 (‵ (froom (block_type (n + (room - n))) b o)) (room_glue 𝓛 node_type n (room - n) b o) $ rewrite ! 0 (λ (k : ℕ). ‵ (froom (block_type k) b o)) sum refl $ done !
