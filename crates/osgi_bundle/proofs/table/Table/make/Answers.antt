-- What is found of the name, and how many bundles there are.
use Rattle.std.proofs.Common.{◌≡◌, ◌<◌, ◌≤◌, ap, sym, ◌∙◌, inl, inr, refl, rules, length, arith}
use Rattle.std.specs.Prelude.{None, Some}
use Rattle.osgi_bundle.specs.computed.Kept.{bundle_under, name_cmp, bundle_name, named}
use Rattle.osgi_ops.specs.declared.refusal.Many.TheVariants.{Bundles}
use Rattle.osgi_ops.specs.declared.refusal.Refusal.TheVariants.{TooMany}
use Rattle.osgi_bundle.proofs.Finding.{no_twin, twin_of}
use Rattle.osgi_bundle.proofs.table.Table.make.Goals as goal

pub returns-in-Some : goal.returns-in-Some
returns-in-Some c =
    let found : bundle_under name_cmp bundle_name (named c.args.name c.args.version) c.self.inside.rows.items ≡ Some c.in-Some.bundle =
    ap (λ k. bundle_under name_cmp bundle_name k c.self.inside.rows.items) (sym c.in_ok-key.ensures.same)
    ∙ sym (c.self.invariant.index.names c.in_ok-key.key)
    ∙ sym c.of_name.ensures.bundle
    ∙ c.in-Some.is in
    rw (← c.self.view_is) (record { answer = inl (_, twin_of c.args.name c.args.version c.self.inside.rows.items c.in-Some.bundle found, refl) })

pub returns-then-len-gt-MAX_BUNDLES : goal.returns-then-len-gt-MAX_BUNDLES
returns-then-len-gt-MAX_BUNDLES c =
    let none : c.of_name.result ≡ None = search rules in
    let found : bundle_under name_cmp bundle_name (named c.args.name c.args.version) c.self.inside.rows.items ≡ None =
    ap (λ k. bundle_under name_cmp bundle_name k c.self.inside.rows.items) (sym c.in_ok-key.ensures.same)
    ∙ sym (c.self.invariant.index.names c.in_ok-key.key)
    ∙ sym c.of_name.ensures.bundle
    ∙ none in
    let count : 1024 < length c.self.inside.rows.items = search rules in
    rw (← c.self.view_is) (record { answer = inr ((λ refusal. no_twin c.args.name c.args.version c.self.inside.rows.items refusal found), inl (TooMany Bundles, (refl, count), refl)) })

pub returns : goal.returns
returns c =
    let none : c.of_name.result ≡ None = search rules in
    let found : bundle_under name_cmp bundle_name (named c.args.name c.args.version) c.self.inside.rows.items ≡ None =
    ap (λ k. bundle_under name_cmp bundle_name k c.self.inside.rows.items) (sym c.in_ok-key.ensures.same)
    ∙ sym (c.self.invariant.index.names c.in_ok-key.key)
    ∙ sym c.of_name.ensures.bundle
    ∙ none in
    let count : length c.self.inside.rows.items ≤ 1024 = search rules in
    rw (← c.self.view_is)
    (record { answer = inr ((λ refusal. no_twin c.args.name c.args.version c.self.inside.rows.items refusal found), inr ((λ refusal called. omega (arith, count, called.1)), refl)) })
