-- The part that is refused stands at its member. No header is the first bad part, since all of them keep the rules.
use Rattle.test_read.proofs.InputFacts.{of_authority, of_target, of_method, of_runtime, no_header_refused}
use Rattle.test_read.proofs.request.valid_request.Goals as goal

pub returns-in-Err-Authority : goal.returns-in-Err-Authority
returns-in-Err-Authority c =
    of_authority _ _ _ _ c.requires c.in-Err-Authority.ensures.bad c.in-Err-Authority.field-0-is c.bad_field.ensures

pub returns-in-Err-Target : goal.returns-in-Err-Target
returns-in-Err-Target c = of_target _ _ _ _ c.requires c.in-Err-Target.ensures.bad c.in-Err-Target.field-0-is c.bad_field-in-Err-Target.ensures

pub returns-in-Err-Method : goal.returns-in-Err-Method
returns-in-Err-Method c = of_method _ _ _ _ c.requires c.in-Err-Method.ensures.bad c.in-Err-Method.field-0-is c.bad_field-in-Err-Method.ensures

pub returns-in-Err-Runtime : goal.returns-in-Err-Runtime
returns-in-Err-Runtime c = of_runtime _ _ _ _ c.requires c.in-Err-Runtime.ensures.bad c.in-Err-Runtime.field-0-is c.bad_field-in-Err-Runtime.ensures

pub unreachable-requires : goal.unreachable-requires
unreachable-requires c =
    no_header_refused c.args.parts c.in-Err-Header.field-0 c.in-Err-Header.field-0-0 c.requires c.in-Err-Header.ensures.bad c.in-Err-Header.field-0-is
