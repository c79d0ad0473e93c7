-- The facts of legal histories at the moment at which an operation is asked for, as far as they rest on what no operation does yet: what the
-- operations' proofs cite.
use Rattle.std.proofs.Common.{◌≡◌, true, false}
use Rattle.std.specs.Prelude.{Some, Contains}
use Rattle.osgi_base.specs.declared.ids.BundleId.{BundleId}
use Rattle.osgi_ops.specs.Closures.{IsClosed}
use Rattle.osgi_ops.specs.Bundles.{Bundle, bundles, is_live, is_up}
use Rattle.osgi_ops.specs.Conditions.{state_of}
use Rattle.osgi_legal.specs.Legal.{IsTold}
use Rattle.osgi_ops.specs.Levels.{Refresh, refresh}
use Rattle.osgi_ops.specs.Moments.{Moment}
use Rattle.osgi_legal.proofs.Legal.{at-told}
use Rattle.osgi_stage.proofs.Running.{all-run, IsRunning}
use Rattle.osgi_stage.proofs.States.{live-row}
use Rattle.osgi_stage.proofs.Windows.{always-kept, IsKept, IsWindow, members-closed, members-stay}

-- each live bundle has its row
pub row-at : (now : Moment) → IsTold now → (b : BundleId) → is_live b now.before ≡ true → (c : Bundle) × Contains (bundles now.setting.depot now.before) c × (c.bundle ≡ b)
row-at now t b = at-told (λ m. is_live b m.before ≡ true → (c : Bundle) × Contains (bundles m.setting.depot m.before) c × (c.bundle ≡ b)) (λ setting told tag legal. live-row setting told legal b) now t

-- the world is tidy; the members of an open refresh that has not dropped are a closure in it, and bundle 0 is none of them
pub kept-at : (now : Moment) → IsTold now → IsKept now.before now.world
kept-at now t = at-told (λ m. IsKept m.before m.world) (λ setting told tag legal. always-kept setting told legal) now t

pub window-at : (now : Moment) → IsTold now → (r : Refresh) → refresh now.before ≡ Some r → r.dropped ≡ false → IsWindow now.world r
window-at now t r = at-told (λ m. refresh m.before ≡ Some r → r.dropped ≡ false → IsWindow m.world r) (λ setting told tag legal. members-stay setting told legal r) now t

pub closed-at : (now : Moment) → IsTold now → (r : Refresh) → refresh now.before ≡ Some r → r.dropped ≡ false → IsClosed now.world r.members
closed-at now t r = at-told (λ m. refresh m.before ≡ Some r → r.dropped ≡ false → IsClosed m.world r.members) (λ setting told tag legal. members-closed setting told legal r) now t

-- the current revision of a bundle that is up is in force
pub running-at : (now : Moment) → IsTold now → (b : BundleId) → is_up (state_of now b) ≡ true → IsRunning now.world b
running-at now t b = at-told (λ m. is_up (state_of m b) ≡ true → IsRunning m.world b) (λ setting told tag legal. all-run setting told legal b) now t
