-- Each section is itself: no kind of section is forgotten where sections are compared.
use Rattle.std.proofs.Common.{◌≡◌, true, refl}
use Rattle.std.proofs.lemmas.Slice.Eq.{bytes_eq-Decides}
use Rattle.osgi_ops.specs.declared.section.Section.{Section}
use Rattle.osgi_ops.specs.declared.section.Section.TheVariants as section
use Rattle.osgi_session.specs.Scripts.{is_section}

pub is_section-self : (s : Section) → is_section s s ≡ true
is_section-self section.Start = refl
is_section-self section.Stop = refl
is_section-self (section.On name) = (bytes_eq-Decides name name).1 refl
is_section-self (section.Job name) = (bytes_eq-Decides name name).1 refl
is_section-self (section.Make name) = (bytes_eq-Decides name name).1 refl
