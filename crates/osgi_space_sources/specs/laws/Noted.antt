-- Which sources and ends of wires a row adds to those that are noted.
use Rattle.std.proofs.Common.{◌≡◌, ◌⊎◌, inl, inr, ℕ, [], ◌∷◌, refl, sym, ◌∙◌, ap, subst, arith}
use Rattle.std.proofs.lemmas.List.Elements.{Contains-append_left, Contains-push_cases}
use Rattle.osgi_space_sources.specs.computed.Disputes.{AreDisputed, AreNoted, HasSameEnds, HoldsAll, IsDisputed, IsNoted, IsNotedEnd, IsWireEnd, NotesMore}
use Rattle.osgi_space_sources.specs.computed.RowSources.{HasExport}
use Rattle.osgi_space_sources.specs.declared.disputed.Possible.{Possible}
use Rattle.osgi_space_rows.specs.Rows.{Imports, OwnExport, Requires, RowLists, no_rows, with_attachment, with_import, with_required}
use Rattle.osgi_space_rows.specs.Worlds.{with_added}
use Rattle.osgi_space_rows.specs.declared.added.Added.{Added}
use Rattle.osgi_space_rows.specs.declared.added.Added.TheVariants.{Attachment as OfAttachment, Import as OfImport, Nothing, Required as OfRequired}
use Rattle.osgi_space_rows.specs.declared.rows.Attachment.{Attachment}
use Rattle.osgi_space_rows.specs.declared.rows.Import.{Import}
use Rattle.osgi_space_rows.specs.declared.rows.Required.{Required}

same : (possible : Possible) (p x y : ℕ) → IsNoted possible p x → IsNoted possible p y → (x ≡ y) ⊎ IsDisputed possible.disputed p
same possible p x y (first, is, either) (second, is', either') =
    let e : first ≡ second = cc in
    elim either [
      | inr disputed ↦ inr disputed
      | inl here ↦ elim either' [ inr disputed ↦ inr disputed | inl there ↦ inl (here ∙ e ∙ sym there) ]
    ]

pub noted-disputed : (R : RowLists) (possible : Possible) → AreNoted R possible → AreDisputed R possible.disputed
noted-disputed R possible noted = record {
  ends = noted.ends;
  alike = λ p x y a b. same possible p x y (noted.sources p x a) (noted.sources p y b);
}

-- ---- what is noted grows

-- of no rows all is noted
pub none-noted : (possible : Possible) → AreNoted no_rows possible
none-noted possible = record {
  ends = λ x end. absurd (elim end [
    | inl wires ↦ elim wires [ inl (p, y, at) ↦ omega (arith, at.1) | inr (b, q) ↦ omega (arith, q.1.1) ]
    | inr to ↦ elim to [ inl (r, p, at) ↦ omega (arith, at.1) | inr (r, q) ↦ omega (arith, q.1.1) ]
  ]);
  sources = λ p x at. absurd (elim at [ inl (r, i) ↦ omega (arith, i.1) | inr (end, has) ↦ omega (arith, has.2.1) ]);
}

-- the ends are the same, and no source is lost
pub extends-ends : (R : RowLists) (old new : Possible) → HoldsAll old new → HasSameEnds old new → NotesMore R old new
extends-ends R old new kept ends = record {
  sources = kept;
  ends = λ x end. subst (λ set. IsNotedEnd (record new.disputed { ends = set }) x) (sym ends) end;
  exports = λ x end. inl (subst (λ set. IsNotedEnd (record new.disputed { ends = set }) x) ends end);
}

pub extends-same : (R : RowLists) (possible : Possible) → NotesMore R possible possible
extends-same R possible = extends-ends R possible possible (λ p x noted. noted) refl

pub extends-then : (R : RowLists) {a b c : Possible} → NotesMore R a b → NotesMore R b c → NotesMore R a c
extends-then R first second = record {
  sources = λ p x noted. second.sources p x (first.sources p x noted);
  ends = λ x end. second.ends x (first.ends x end);
  exports = λ x end. elim (second.exports x end) [
    | inr noted ↦ inr noted
    | inl before ↦ elim (first.exports x before) [ inl old ↦ inl old | inr noted ↦ inr (λ p has. second.sources p x (noted p has)) ]
  ];
}

-- what was noted of the rows before, and what is of those that are new
pub noted-more : (R S : RowLists) (old new : Possible) → AreNoted R old → NotesMore S old new →
    ((x : ℕ) → IsWireEnd S x → IsWireEnd R x ⊎ IsNotedEnd new.disputed x) →
    ((r p x : ℕ) → Imports S r p x → Imports R r p x ⊎ IsNoted new p x) →
    ((x p : ℕ) → IsNotedEnd old.disputed x → HasExport S x p → HasExport R x p ⊎ IsNoted new p x) → AreNoted S new
noted-more R S old new before extends ends imports exports = record {
  ends = λ x end. elim (ends x end) [ inl early ↦ extends.ends x (before.ends x early) | inr late ↦ late ];
  sources = λ p x possible. elim possible [
    | inl (r, at) ↦ elim (imports r p x at) [
      | inl early ↦ extends.sources p x (before.sources p x (inl (r, early)))
      | inr late ↦ late
    ]
    | inr (end, has) ↦ elim (extends.exports x end) [
      | inr noted ↦ noted p has
      | inl early ↦ elim (exports x p early has) [
        | inl old ↦ extends.sources p x (before.sources p x (inr (early, old)))
        | inr late ↦ late
      ]
    ]
  ];
}

-- ---- one row more

import-end : (R : RowLists) (row : Import) (x : ℕ) → IsWireEnd (with_import R row) x → IsWireEnd R x ⊎ ((x ≡ row.revision) ⊎ (x ≡ row.provider))
import-end R row x (inl (inl (p, y, at))) = elim (Contains-push_cases R.imports row _ at) [
  | inl old ↦ inl (inl (inl (p, y, old)))
  | inr e ↦ inr (inl (ap (λ (i : Import). i.revision) (sym e)))
]
import-end R row x (inl (inr bundle)) = inl (inl (inr bundle))
import-end R row x (inr (inl (r, p, at))) = elim (Contains-push_cases R.imports row _ at) [
  | inl old ↦ inl (inr (inl (r, p, old)))
  | inr e ↦ inr (inr (ap (λ (i : Import). i.provider) (sym e)))
]
import-end R row x (inr (inr bundle)) = inl (inr (inr bundle))

required-end : (R : RowLists) (row : Required) (x : ℕ) → IsWireEnd (with_required R row) x → IsWireEnd R x ⊎ ((x ≡ row.revision) ⊎ (x ≡ row.provider))
required-end R row x (inl (inl import)) = inl (inl (inl import))
required-end R row x (inl (inr (b, q))) = elim (Contains-push_cases R.required row _ q.1) [
  | inl old ↦ inl (inl (inr (b, (q.0, old))))
  | inr e ↦ inr (inl (ap (λ (i : Required). i.revision) (sym e)))
]
required-end R row x (inr (inl import)) = inl (inr (inl import))
required-end R row x (inr (inr (r, q))) = elim (Contains-push_cases R.required row _ q.1) [
  | inl old ↦ inl (inr (inr (r, (q.0, old))))
  | inr e ↦ inr (inr (ap (λ (i : Required). i.provider) (sym e)))
]

attached-cases : (R : RowLists) (row : Attachment) (p x : ℕ) → HasExport (with_attachment R row) x p → HasExport R x p ⊎ (x ≡ row.host) × OwnExport R row.fragment p
attached-cases R row p x (o, inl own, e) = inl (o, inl own, e)
attached-cases R row p x (o, inr a, e) = elim (Contains-push_cases R.attached row _ a) [
  | inl old ↦ inl (o, inr old, e)
  | inr is ↦ inr (ap (λ (r : Attachment). r.host) (sym is), subst (λ f. OwnExport R f p) (ap (λ (r : Attachment). r.fragment) (sym is)) e)
]

-- of two ends of a row, one
one-end : (possible : Possible) {a b : ℕ} → IsNotedEnd possible.disputed a × IsNotedEnd possible.disputed b → (x : ℕ) → (x ≡ a) ⊎ (x ≡ b) → IsNotedEnd possible.disputed x
one-end possible ends x (inl e) = subst (IsNotedEnd possible.disputed) (sym e) ends.0
one-end possible ends x (inr e) = subst (IsNotedEnd possible.disputed) (sym e) ends.1

-- what the row adds is noted
module _ (R : RowLists) (old new : Possible) (before : AreNoted R old) where
  pub noted-import : (row : Import) → NotesMore (with_import R row) old new → IsNoted new row.imported row.provider → IsNotedEnd new.disputed row.revision × IsNotedEnd new.disputed row.provider → AreNoted (with_import R row) new
  noted-import row extends here ends = noted-more R (with_import R row) old new before extends
      (λ x end. elim (import-end R row x end) [ inl early ↦ inl early | inr e ↦ inr (one-end new ends x e) ])
      (λ r p x at. elim (Contains-push_cases R.imports row _ at) [
        | inl early ↦ inl early
        | inr e ↦ inr (subst (λ q. IsNoted new q x) (ap (λ (i : Import). i.imported) e) (subst (IsNoted new row.imported) (ap (λ (i : Import). i.provider) e) here))
      ])
      (λ x p end has. inl has)

  pub noted-required : (row : Required) → NotesMore (with_required R row) old new → IsNotedEnd new.disputed row.revision × IsNotedEnd new.disputed row.provider → AreNoted (with_required R row) new
  noted-required row extends ends = noted-more R (with_required R row) old new before extends
      (λ x end. elim (required-end R row x end) [ inl early ↦ inl early | inr e ↦ inr (one-end new ends x e) ])
      (λ r p x at. inl at)
      (λ x p end has. inl has)

  pub noted-attachment : (row : Attachment) → NotesMore (with_attachment R row) old new → ((p : ℕ) → OwnExport R row.fragment p → IsNoted new p row.host) → AreNoted (with_attachment R row) new
  noted-attachment row extends here = noted-more R (with_attachment R row) old new before extends
      (λ x end. inl end)
      (λ r p x at. inl at)
      (λ x p end has. elim (attached-cases R row p x has) [ inl early ↦ inl early | inr e ↦ inr (subst (IsNoted new p) (sym e.0) (here p e.1)) ])

-- ---- one row fewer

attached-more : (R : RowLists) (row : Attachment) (p x : ℕ) → HasExport R x p → HasExport (with_attachment R row) x p
attached-more R row p x (o, inl own, e) = (o, inl own, e)
attached-more R row p x (o, inr a, e) = (o, inr (Contains-append_left R.attached (row ∷ []) _ a), e)

pub exports-more : (R : RowLists) (added : Added) (x p : ℕ) → HasExport R x p → HasExport (with_added R added) x p
exports-more R (OfImport row) x p has = has
exports-more R (OfRequired row) x p has = has
exports-more R (OfAttachment row) x p has = attached-more R row p x has
exports-more R Nothing x p has = has

imports-more : (R : RowLists) (added : Added) (r p x : ℕ) → Imports R r p x → Imports (with_added R added) r p x
imports-more R (OfImport row) r p x at = Contains-append_left R.imports (row ∷ []) _ at
imports-more R (OfRequired row) r p x at = at
imports-more R (OfAttachment row) r p x at = at
imports-more R Nothing r p x at = at

requires-more : (R : RowLists) (added : Added) (r x : ℕ) → Requires R r x → Requires (with_added R added) r x
requires-more R (OfImport row) r x at = at
requires-more R (OfRequired row) r x (again, at) = (again, Contains-append_left R.required (row ∷ []) _ at)
requires-more R (OfAttachment row) r x at = at
requires-more R Nothing r x at = at

ends-more : (R : RowLists) (added : Added) (x : ℕ) → IsWireEnd R x → IsWireEnd (with_added R added) x
ends-more R added x (inl (inl (p, y, at))) = inl (inl (p, y, imports-more R added x p y at))
ends-more R added x (inl (inr (b, at))) = inl (inr (b, requires-more R added x b at))
ends-more R added x (inr (inl (r, p, at))) = inr (inl (r, p, imports-more R added r p x at))
ends-more R added x (inr (inr (r, at))) = inr (inr (r, requires-more R added r x at))

-- where the row is taken back, the rest stays noted
pub noted-fewer : (R : RowLists) (added : Added) (possible : Possible) → AreNoted (with_added R added) possible → AreNoted R possible
noted-fewer R added possible noted = record {
  ends = λ x end. noted.ends x (ends-more R added x end);
  sources = λ p x at. elim at [
    | inl (r, i) ↦ noted.sources p x (inl (r, imports-more R added r p x i))
    | inr (end, has) ↦ noted.sources p x (inr (end, exports-more R added x p has))
  ];
}

-- where the row was not added after all, what was noted of it does no harm
pub noted-still : (R : RowLists) (added : Added) (old new : Possible) → AreNoted R old → NotesMore (with_added R added) old new → AreNoted R new
noted-still R added old new before extends = noted-more R R old new before
    (record {
      sources = extends.sources;
      ends = extends.ends;
      exports = λ x end. elim (extends.exports x end) [ inl early ↦ inl early | inr noted ↦ inr (λ p has. noted p (exports-more R added x p has)) ];
    })
    (λ x end. inl end) (λ r p x at. inl at) (λ x p end has. inl has)
