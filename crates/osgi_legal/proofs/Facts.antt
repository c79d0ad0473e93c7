-- The facts of legal histories that last, at the moment at which an operation is asked for: what the operations' proofs cite.
use Rattle.std.proofs.Common.{◌≡◌, true, false}
use Rattle.std.specs.Prelude.{◌==◌, All}
use Rattle.osgi_base.specs.declared.ids.BundleId.{BundleId}
use Rattle.osgi_base.specs.declared.ids.ListenerId.{ListenerId}
use Rattle.osgi_ops.specs.Brackets.{Bracket, brackets}
use Rattle.osgi_ops.specs.Bundles.{bundles, is_up}
use Rattle.osgi_ops.specs.Conditions.{state_change, state_of}
use Rattle.osgi_ops.specs.Jobs.{jobs, Queued}
use Rattle.osgi_legal.specs.Legal.{IsTold}
use Rattle.osgi_ops.specs.Listening.{Added, is_in_turn, listeners}
use Rattle.osgi_ops.specs.Moments.{Moment}
use Rattle.osgi_ops.specs.Services.{live_services, Registered}
use Rattle.osgi_ops.specs.declared.refusal.Refusal.{Refusal}
use Rattle.osgi_world.specs.Lists.{In}
use Rattle.osgi_legal.proofs.Legal.{at-told}
use Rattle.osgi_legal.proofs.Listening.{is_turn}
use Rattle.osgi_legal.proofs.Names.{AreNamedApart, names-apart}
use Rattle.osgi_legal.proofs.Owners.{jobs-up, listeners-up, services-up}
use Rattle.osgi_legal.proofs.Phases.{IsFit, phases-fit}
use Rattle.osgi_legal.proofs.Turns.{AreTurns, same-turn, turns_of, turns-fit}
use Rattle.osgi_legal.proofs.Up.{up-refused}

-- a bundle is starting or stopping exactly with one open bracket, of the tag of its last begin
pub fit-at : (now : Moment) → IsTold now → (b : BundleId) → IsFit b now.before
fit-at now t b = at-told (λ m. IsFit b m.before) (λ setting told tag legal. phases-fit setting told legal b) now t

-- the owners of live services, live listeners and queued jobs are up
pub services-up-at : (now : Moment) → IsTold now → All (λ (r : Registered). is_up (state_of now r.owner) ≡ true) (live_services now.before)
services-up-at now t = at-told (λ m. All (λ (r : Registered). is_up (state_of m r.owner) ≡ true) (live_services m.before)) (λ setting told tag legal. services-up setting told legal) now t

pub listeners-up-at : (now : Moment) → IsTold now → All (λ (a : Added). is_up (state_of now a.owner) ≡ true) (listeners now.before)
listeners-up-at now t = at-told (λ m. All (λ (a : Added). is_up (state_of m a.owner) ≡ true) (listeners m.before)) (λ setting told tag legal. listeners-up setting told legal) now t

pub jobs-up-at : (now : Moment) → IsTold now → All (λ (q : Queued). is_up (state_of now q.owner) ≡ true) (jobs now.before)
jobs-up-at now t = at-told (λ m. All (λ (q : Queued). is_up (state_of m q.owner) ≡ true) (jobs m.before)) (λ setting told tag legal. jobs-up setting told legal) now t

-- names and versions of live bundles are apart
pub named-apart-at : (now : Moment) → IsTold now → AreNamedApart (bundles now.setting.depot now.before)
named-apart-at now t = at-told (λ m. AreNamedApart (bundles m.setting.depot m.before)) (λ setting told tag legal. names-apart setting told legal) now t

-- a state change of a bundle that is up, and not bundle 0, is refused
pub up-refused-at : (now : Moment) → IsTold now → (b : BundleId) → (b.0 == 0) ≡ false → is_up (state_of now b) ≡ true → (f : Refusal) × state_change is_up now b f
up-refused-at now t b = at-told (λ m. (b.0 == 0) ≡ false → is_up (state_of m b) ≡ true → (f : Refusal) × state_change is_up m b f) (λ setting told tag legal. up-refused setting told legal tag b) now t

-- a listener is in a turn exactly with one open bracket of a hand of it
pub turns-at : (now : Moment) → IsTold now → (listener : ListenerId) → AreTurns listener (is_in_turn listener now.before) (turns_of listener (brackets now.before))
turns-at now t listener = at-told (λ m. AreTurns listener (is_in_turn listener m.before) (turns_of listener (brackets m.before))) (λ setting told tag legal. turns-fit setting told legal listener) now t

pub same-turn-at : (now : Moment) → IsTold now → (listener : ListenerId) (x y : Bracket) → In x (brackets now.before) → In y (brackets now.before) → is_turn listener x ≡ true → is_turn listener y ≡ true → x ≡ y
same-turn-at now t listener x y i j e f =
    at-told (λ m. In x (brackets m.before) → In y (brackets m.before) → x ≡ y) (λ setting told tag legal i j. same-turn setting told legal listener x y i j e f) now t i j
