use Rattle.std.proofs.Common.{◌++◌, sym, ap, ◌∙◌, Ok}
use Rattle.std.proofs.lemmas.Result.{err_from_is_err_and}
use Rattle.definitions.specs.Name.{wire}
use Rattle.names_parsed.specs.Heads.{fault_of}
use Rattle.names_parsed.specs.Parsed.{parsed_name}
use Rattle.names_rdata.specs.Reading.{name_part, octets_part, two_parts}
use Rattle.names_rdata.proofs.Parts.{first_err, then_ok, then_err, went_on}
use Rattle.plain.proofs.soa.parse_fields.Goals as goal

pub returns-in_err-rname : goal.returns-in_err-rname
returns-in_err-rname c =
    let p = err_from_is_err_and c.from_residual-in_err-rname.result c.from_residual-in_err-rname.ensures.1 in
    let old = c.args.parser.now in
    let mid = c.parse_name.new.parser in
    let f = fault_of c.in_err-rname.field-0.0 in
    let a = c.in_ok-mname.ensures.read in
    let b = c.in_err-rname.ensures.read in
    rw (p.1, p.2) (
      then_err name_part (two_parts name_part (octets_part 20)) old mid (wire (parsed_name c.in_ok-mname.mname)) f a.1 a.0
          (first_err name_part (octets_part 20) mid.octets mid.place mid.end f b.0),
      went_on old mid c.parse_name-2.new.parser a.1 b.1,
    )

pub returns-in_err-parse_array : goal.returns-in_err-parse_array
returns-in_err-parse_array c =
    let p = err_from_is_err_and c.from_residual-in_err-parse_array.result c.from_residual-in_err-parse_array.ensures.1 in
    let old = c.args.parser.now in
    let mid = c.parse_name.new.parser in
    let next = c.parse_name-2.new.parser in
    let f = fault_of c.in_err-parse_array.field-0.0 in
    let a = c.in_ok-mname.ensures.read in
    let b = c.in_ok-rname.ensures.read in
    let d = c.in_err-parse_array.ensures.read in
    rw (p.1, p.2) (
      then_err name_part (two_parts name_part (octets_part 20)) old mid (wire (parsed_name c.in_ok-mname.mname)) f a.1 a.0
          (then_err name_part (octets_part 20) mid next (wire (parsed_name c.in_ok-rname.rname)) f b.1 b.0 d.0),
      went_on old mid c.parse_array.new.parser a.1 (went_on mid next c.parse_array.new.parser b.1 d.1),
    )

pub returns : goal.returns
returns c =
    let old = c.args.parser.now in
    let mid = c.parse_name.new.parser in
    let next = c.parse_name-2.new.parser in
    let new = c.parse_array.new.parser in
    let m = wire (parsed_name c.in_ok-mname.mname) in
    let r = wire (parsed_name c.in_ok-rname.rname) in
    let octets = c.in_ok-parse_array.field-0 in
    let a = c.in_ok-mname.ensures.read in
    let b = c.in_ok-rname.ensures.read in
    let d = c.in_ok-parse_array.ensures.read in (
      then_ok name_part (two_parts name_part (octets_part 20)) old mid m (r ++ octets) new.place a.1 a.0
          (then_ok name_part (octets_part 20) mid next r octets new.place b.1 b.0 d.0)
          ∙ ap (λ x. Ok (m ++ (r ++ x), new.place)) (sym c.of_octets-times.ensures),
      went_on old mid new a.1 (went_on mid next new b.1 d.1),
    )
