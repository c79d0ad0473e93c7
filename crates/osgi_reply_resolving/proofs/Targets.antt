-- What a resolve of a bundle is about, by what is found of the bundle.
use Rattle.std.proofs.Common.{◌≡◌, Bor, ap, sym, ◌∙◌, refl}
use Rattle.std.specs.Prelude.{Bool, true, false, is_some, Option, None, Some}
use Rattle.std.specs.Option.{option_copied}
use Rattle.osgi_base.specs.declared.ids.BundleId.{BundleId}
use Rattle.osgi_ops.specs.Resolved.{current_revision, is_fragment_bundle, is_resolved}
use Rattle.osgi_wiring.specs.States.{wiring_at}
use Rattle.osgi_world.specs.declared.wiring.Wiring.{Wiring}
use Rattle.osgi_world.specs.declared.world.Known.{Known}
use Rattle.osgi_world.specs.declared.world.World.{World}
use Rattle.osgi_tables.proofs.Wired.{target_resolved}
use Rattle.osgi_reply_resolving.specs.computed.Searched.{IsAsked}

pub some_copied : {X : Type 0} (o : Option (Bor X)) (w : Option X) (t : Bool) → option_copied o ≡ w → is_some o ≡ t → is_some w ≡ t
some_copied None w t is some = ap is_some (sym is) ∙ some
some_copied (Some x) w t is some = ap is_some (sym is) ∙ some

pub about_resolved : (W : World) (b : BundleId) (k : Known) → Some k ≡ current_revision W b → is_some k.revision.host ≡ false → is_some (wiring_at W.wirings k.id) ≡ true → (is_fragment_bundle W b ≡ false) × (is_resolved W b ≡ true)
about_resolved W b k is whole some = by (wiring_at W.wirings k.id) refl
  where
    by : (o : Option Wiring) → wiring_at W.wirings k.id ≡ o → (is_fragment_bundle W b ≡ false) × (is_resolved W b ≡ true)
    by None e = absurd (cc (ap is_some e, some))
    by (Some g) e = target_resolved W b k g is whole (sym e)

pub about_root : (W : World) (b : BundleId) (k : Known) → Some k ≡ current_revision W b → is_some k.revision.host ≡ false → is_some (wiring_at W.wirings k.id) ≡ false → IsAsked W b k.id
about_root W b k is whole some = record { known = k; is = sym is; id = refl; whole = whole; unwired = none (wiring_at W.wirings k.id) some }
  where
    none : (o : Option Wiring) → is_some o ≡ false → o ≡ None
    none None e = refl
    none (Some g) e = absurd (cc e)
