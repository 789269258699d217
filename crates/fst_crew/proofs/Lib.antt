mod ReportLemmas
mod Misfits
