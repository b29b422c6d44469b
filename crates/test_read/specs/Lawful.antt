-- Lawful tests: the request is valid, and the headers of request and response are few and short enough to be edited.
use Rattle.std.specs.Prelude.{◌≡◌, true, All}
use Rattle.std.specs.List.{list_all}
use Rattle.text_base.specs.Requests.{is_header, is_valid}
use Rattle.cfg_types.specs.Conditions.{AreFewHeads}
use Rattle.cfg_types.specs.Lawful.{IsLawfulHeader}
use Rattle.test_read.specs.declared.test.Test.{Test}

-- the response's headers keep the rules of requests for headers, and the rules that are expected are lawful
pub record IsLawfulTest (t : Test) : Type 0 where
  pub valid : is_valid t.request ≡ true
  pub request : AreFewHeads t.request.headers
  pub response : AreFewHeads t.response.list
  pub headers : list_all is_header t.response.list ≡ true
  pub of_request : All IsLawfulHeader t.expect.request_header_matches
  pub of_response : All IsLawfulHeader t.expect.response_header_matches
