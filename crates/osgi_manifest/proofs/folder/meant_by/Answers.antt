-- A line that is no header is the fault; or else what the headers say.
use Rattle.std.proofs.Common.{◌≡◌, ap, sym, ◌∙◌}
use Rattle.std.specs.Prelude.{Ok}
use Rattle.osgi_manifest.specs.computed.Readings.{SaysText}
use Rattle.osgi_manifest.proofs.Folders.{fault_one, fault_read, headers_fine, headers_one, headers_read, line_only, no_headers, said_answers, stops}
use Rattle.osgi_world.specs.declared.manifest_fault.ManifestKind.TheVariants as fault
use Rattle.osgi_manifest.proofs.folder.meant_by.Goals as goal

pub returns-in-Ok : goal.returns-in-Ok
returns-in-Ok c =
    let text = c.args.manifest.now in
    let read = c.in_ok-headers.field-0 in
    let headers = c.items.result.now in
    let is : read ≡ Ok headers = c.in-Ok.is ∙ ap Ok (sym c.items.ensures.items) in
    record {
      only = said_answers c.args.folder.now text headers (headers_read text read headers is c.in_ok-headers.ensures.reads) (headers_one text read headers is c.in_ok-headers.ensures.only)
          (headers_fine text read headers is c.in_ok-headers.ensures.fault) c.meant.result c.meant.ensures.only;
    }

pub returns-in-Err : goal.returns-in-Err
returns-in-Err c =
    let text = c.args.manifest.now in
    let read = c.in_ok-headers.field-0 in
    let found = c.in-Err.fault in
    record {
      only = stops c.args.folder.now (SaysText c.args.folder.now text) fault.Header found.at c.stop.result c.stop.ensures.stop
          (line_only c.args.folder.now text found (fault_read text read found c.in-Err.is c.in_ok-headers.ensures.reads) (fault_one text read found c.in-Err.is c.in_ok-headers.ensures.fault)
          (no_headers text read found c.in-Err.is c.in_ok-headers.ensures.only));
    }
