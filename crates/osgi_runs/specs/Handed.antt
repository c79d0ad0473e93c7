-- What listeners were handed in the end.
use Rattle.std.specs.Prelude.{◌≡◌, List, Some}
use Rattle.osgi_base.specs.declared.ids.ListenerId.{ListenerId}
use Rattle.osgi_legal.specs.Legal.{AreAllowed}
use Rattle.osgi_ops.specs.Listening.{Added, due, handed, listener_at}
use Rattle.osgi_ops.specs.Moments.{entries_in, Told}
use Rattle.osgi_ops.specs.Settings.{Setting}
use Rattle.osgi_ops.specs.declared.entry.Entry.{Entry}

-- each listener that is live in the end was handed all that is due to it
abbrev pub AllHanded : List Told → Type 0
AllHanded told = (listener : ListenerId) (added : Added) → listener_at listener (entries_in told) ≡ Some added → handed listener told ≡ due listener told

-- so it is in each telling of the history that is allowed step by step
abbrev pub AllHandedIn : Setting → List Entry → Type 0
AllHandedIn setting history = (told : List Told) → entries_in told ≡ history → AreAllowed setting told → AllHanded told
