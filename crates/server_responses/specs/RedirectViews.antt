-- What a redirect is, as it is kept.
use Rattle.answer_terms.specs.Redirection.{lead_seen}
use Rattle.messages.specs.Record.{spelled}
use Rattle.server_responses.specs.Redirects.{Redirected, redirected}
use Rattle.server_responses.specs.declared.redirects.Redirect.{Redirect}

abbrev pub redirected_as : Redirect → Redirected
redirected_as r = redirected (spelled r.dname.now) (lead_seen r.lead)
