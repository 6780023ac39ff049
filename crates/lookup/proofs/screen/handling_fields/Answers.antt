-- What the pass kept for each tag is what its accessor finds.
use Rattle.std.proofs.Common.{◌∙◌, sym, ap, List, get_or}
use Rattle.std.specs.Prelude.{Option, None}
use Rattle.bcd.specs.Outcome.{accepted}
use Rattle.parameter.specs.declared.Place.{Place}
use Rattle.parameter.specs.Parameter.{four_in}
use Rattle.lookup.specs.Accessors.{of_four, read_at, fourth, cause_in, address_found}
use Rattle.lookup.specs.Screen.{screen_of}
use Rattle.lookup.specs.Steps.Pass.{wanted}
use Rattle.lookup.proofs.Passing.{first_refused, first_known}
use Rattle.lookup.proofs.Screening.{same-handling, refused_in_all, known_in_all}
use Rattle.lookup.proofs.screen.handling_fields.Goals as goal

pub returns-in-Err : goal.returns-in-Err
returns-in-Err c =
    let values = c.args.lent.values.now in
    let rows = c.args.lent.rows.now in
    ap (λ s. screen_of s c.args.source_others.now c.args.destination_others.now) c.refused.ensures
    ∙ sym (refused_in_all values rows c.args.count _ _ (first_refused wanted values rows c.args.count _ _ c.in-Err.ensures) c.args.source_others.now c.args.destination_others.now)

pub returns : goal.returns
returns c =
    let values = c.args.lent.values.now in
    let rows = c.args.lent.rows.now in
    let source = c.args.source_others.now in
    let destination = c.args.destination_others.now in
    let (ps, known, firsts) = first_known wanted values rows c.args.count c.in-Ok.first c.in-Ok.ensures in
    same-handling
    (ap accepted (c.number_at.ensures ∙ ap (λ (f : List (Option Place)). read_at (of_four four_in) values (get_or f 0 None)) firsts))
    (ap accepted (c.octet_at.ensures ∙ ap (λ (f : List (Option Place)). read_at (of_four fourth) values (get_or f 1 None)) firsts))
    (ap accepted (c.number_at-2.ensures ∙ ap (λ (f : List (Option Place)). read_at (of_four four_in) values (get_or f 2 None)) firsts))
    (ap accepted (c.octet_at-2.ensures ∙ ap (λ (f : List (Option Place)). read_at (of_four fourth) values (get_or f 3 None)) firsts))
    (ap accepted (c.cause_at.ensures ∙ ap (λ (f : List (Option Place)). read_at (of_four cause_in) values (get_or f 4 None)) firsts))
    (c.address_at.ensures ∙ ap (λ (f : List (Option Place)). address_found 0x0102 values (accepted (get_or f 5 None)) source) firsts)
    (c.address_at-2.ensures ∙ ap (λ (f : List (Option Place)). address_found 0x0103 values (accepted (get_or f 6 None)) destination) firsts)
    ∙ sym (known_in_all values rows c.args.count ps known source destination)
