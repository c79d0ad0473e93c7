-- Which sources new revisions and wirings add to the possible ones.
use Rattle.std.proofs.Common.{◌≡◌, ◌⊎◌, inl, inr, ℕ, List, ◌++◌, length, take, drop, refl, sym, ◌∙◌, ap, subst, Contains}
use Rattle.std.proofs.Math.Seq.{drop-append_seam}
use Rattle.std.proofs.lemmas.List.{take-append-drop}
use Rattle.std.proofs.lemmas.List.Elements.{Contains-append_cases}
use Rattle.osgi_base.specs.declared.ids.RevisionId.{RevisionId}
use Rattle.osgi_world.specs.Lists.{In}
use Rattle.osgi_world.specs.declared.wiring.Wiring.{Wiring}
use Rattle.osgi_world.specs.declared.world.Known.{Known}
use Rattle.osgi_space_rows.specs.Agree.{AreRowsOf, id}
use Rattle.osgi_space_rows.specs.AllKnown.{AreAllKnown}
use Rattle.osgi_space_rows.specs.Names.{AreOnce, name_numbered}
use Rattle.osgi_space_rows.specs.Rows.{Attaches, Imports, OwnExport, RowLists}
use Rattle.osgi_space_rows.specs.Worlds.{AddsKnown, AddsWires, WorldLists}
use Rattle.osgi_space_rows.specs.declared.named.Named.{Named}
use Rattle.osgi_space_rows.specs.declared.rows.Attachment.{Attachment}
use Rattle.osgi_space_rows.specs.declared.rows.Export.{Export}
use Rattle.osgi_space_rows.specs.declared.rows.Import.{Import}
use Rattle.osgi_space_rows.specs.declared.rows.Required.{Required}
use Rattle.osgi_space_rows.specs.laws.AllKnown.{capability-known, is-known, known-in}
use Rattle.osgi_space_rows.proofs.Stepped.{in-append_cases}
use Rattle.osgi_space_sources.specs.computed.Disputes.{AreNoted, NotesMore, IsNotedEnd, IsNoted, IsWireEnd}
use Rattle.osgi_space_sources.specs.computed.RowSources.{HasExport}
use Rattle.osgi_space_sources.specs.declared.disputed.Possible.{Possible}
use Rattle.osgi_space_sources.specs.laws.Noted.{noted-more}
use Rattle.osgi_space.proofs.Numbering.{named}

-- an item of the longer list is one of the shorter, or one of those after it
beyond : {X : Type 0} (xs ys : List X) (x : X) → (more : List X) × (ys ≡ xs ++ more) → Contains ys x → Contains xs x ⊎ Contains (drop (length xs) ys) x
beyond xs ys x (more, is) at = elim (Contains-append_cases xs more x (subst (λ l. Contains l x) is at)) [
  | inl old ↦ inl old
  | inr new ↦ inr (subst (λ l. Contains l x) (sym (ap (drop (length xs)) is ∙ drop-append_seam xs more)) new)
]

module _ (K : List Known) (first : ℕ) (W : List Wiring) (old : Named) (before after : WorldLists) (possible noted : Possible)
    (known : before.known ≡ K) (adds : AddsKnown (take first K) W old before) (all_known : AreAllKnown (take first K) W) (grown : AddsWires before.rows after.rows)
    (extends : NotesMore after.rows possible noted) (were_noted : AreNoted old.rows possible)
    (owners : (k : Known) (p : ℕ) → In k (drop first K) → IsNotedEnd possible.disputed k.id.0 → OwnExport before.rows k.id.0 p → IsNoted noted p k.id.0)
    (providers : (r p x : ℕ) → Contains (drop (length before.rows.imports) after.rows.imports) (record { revision = r; imported = p; provider = x }) → IsNoted noted p x × IsNotedEnd noted.disputed r × IsNotedEnd noted.disputed x)
    (bundles : (row : Required) → Contains (drop (length before.rows.required) after.rows.required) row → IsNotedEnd noted.disputed row.revision × IsNotedEnd noted.disputed row.provider)
    (hosts : (h f p : ℕ) → Contains (drop (length before.rows.attached) after.rows.attached) (record { host = h; fragment = f }) → OwnExport after.rows f p → IsNoted noted p h) where
  own-before : (o p : ℕ) → OwnExport after.rows o p → OwnExport before.rows o p
  own-before o p own = subst (λ (xs : List Export). Contains xs (record { owner = o; exported = p })) grown.exports own

  -- an owner of exports is known
  owner-known : (o p : ℕ) → OwnExport before.rows o p → (k : Known) × In k (take first K ++ drop first K) × (k.id ≡ id o)
  owner-known o p own =
      let e = adds.rows.exports_to o p own in
      let found = known-in before.known (id o) (capability-known before.known (id o) e.0 e.1.0) in
      (found.0, subst (In found.0) (known ∙ sym (take-append-drop first K)) found.1, found.2)

  own-noted : (o p : ℕ) → IsNotedEnd possible.disputed o → OwnExport before.rows o p → HasExport old.rows o p ⊎ IsNoted noted p o
  own-noted o p end own = let k = owner-known o p own in elim (in-append_cases k.0 (take first K) (drop first K) k.1) [
    | inl early ↦ inl (o, inl refl, adds.exports o p (is-known (take first K) k.0 (id o) early k.2) own)
    | inr late ↦
        let same : k.0.id.0 ≡ o = ap (λ (i : RevisionId). i.0) k.2 in
        inr (subst (IsNoted noted p) same (owners k.0 p late (subst (IsNotedEnd possible.disputed) (sym same) end) (subst (λ n. OwnExport before.rows n p) (sym same) own)))
  ]

  fragment-noted : (h f p : ℕ) → Attaches after.rows h f → OwnExport after.rows f p → HasExport old.rows h p ⊎ IsNoted noted p h
  fragment-noted h f p at own = elim (beyond before.rows.attached after.rows.attached (record { host = h; fragment = f }) grown.attached at) [
    | inl early ↦
        let fragment = all_known.fragments (id h) (id f) ((adds.rows.attaches h f).0 early) in
        let attached = subst (λ (xs : List Attachment). Contains xs (record { host = h; fragment = f })) adds.attached early in
        inl (f, inr attached, adds.exports f p fragment (own-before f p own))
    | inr late ↦ inr (hosts h f p late own)
  ]

  -- each row is one of those before, or its ends and its source are noted
  import-noted : (r p x : ℕ) → Imports after.rows r p x → Imports old.rows r p x ⊎ IsNoted noted p x × IsNotedEnd noted.disputed r × IsNotedEnd noted.disputed x
  import-noted r p x at = elim (beyond before.rows.imports after.rows.imports (record { revision = r; imported = p; provider = x }) grown.imports at) [
    | inl early ↦ inl (subst (λ (xs : List Import). Contains xs (record { revision = r; imported = p; provider = x })) adds.imports early)
    | inr late ↦ inr (providers r p x late)
  ]

  bundle-noted : (row : Required) → Contains after.rows.required row → Contains old.rows.required row ⊎ IsNotedEnd noted.disputed row.revision × IsNotedEnd noted.disputed row.provider
  bundle-noted row at = elim (beyond before.rows.required after.rows.required row grown.required at) [
    | inl early ↦ inl (subst (λ (xs : List Required). Contains xs row) adds.required early)
    | inr late ↦ inr (bundles row late)
  ]

  end-noted : (x : ℕ) → IsWireEnd after.rows x → IsWireEnd old.rows x ⊎ IsNotedEnd noted.disputed x
  end-noted x (inl (inl (p, y, at))) = elim (import-noted x p y at) [ inl early ↦ inl (inl (inl (p, y, early))) | inr late ↦ inr late.1 ]
  end-noted x (inl (inr (b, q))) = elim (bundle-noted (record { revision = x; provider = b; reexport = q.0 }) q.1) [ inl early ↦ inl (inl (inr (b, (q.0, early)))) | inr late ↦ inr late.0 ]
  end-noted x (inr (inl (r, p, at))) = elim (import-noted r p x at) [ inl early ↦ inl (inr (inl (r, p, early))) | inr late ↦ inr late.2 ]
  end-noted x (inr (inr (r, q))) = elim (bundle-noted (record { revision = r; provider = x; reexport = q.0 }) q.1) [ inl early ↦ inl (inr (inr (r, (q.0, early)))) | inr late ↦ inr late.1 ]

  export-noted : (x p : ℕ) → IsNotedEnd possible.disputed x → HasExport after.rows x p → HasExport old.rows x p ⊎ IsNoted noted p x
  export-noted x p end (o, inl own, e) = own-noted x p end (subst (λ n. OwnExport before.rows n p) own (own-before o p e))
  export-noted x p end (o, inr at, e) = fragment-noted x o p at e

  pub resumed-noted : AreNoted after.rows noted
  resumed-noted = noted-more old.rows after.rows possible noted were_noted extends end-noted
      (λ r p x at. elim (import-noted r p x at) [ inl early ↦ inl early | inr late ↦ inr late.0 ])
      export-noted

-- the names of rows are each once
pub once-of : (K : List Known) (W : List Wiring) (names : List (List ℕ)) (R : RowLists) → AreRowsOf K W (name_numbered names) R → AreOnce names
once-of K W names R are = λ text i j at other. are.names i j (named names text i at ∙ sym (named names text j other))
